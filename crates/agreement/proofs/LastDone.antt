-- The last call of a replica that a proposal counts: it came in there as that, and if it is a write, something is kept of it. By going down from the proposal to the one that it was made of.
use Rattle.std.proofs.Common.{◌≡◌, ℕ, zero, suc, ◌<◌, false, ◌⊎◌, List, length, get_or, set, Some, None, refl, ap, ◌∙◌, subst, inl, inr, arith}
use Rattle.std.proofs.lemmas.List.{get_or-set_other, get_or-set_same}
use Rattle.std.proofs.lemmas.Bool.{cond_both, cases_eq}
use Rattle.agreement.specs.declared.Place.{Place}
use Rattle.agreement.specs.Content.{Service, Content, Proposal, id_of, root, fresh_place, place_in, place_at, roster, called, joined, Change, copied, by_call, by_join}
use Rattle.agreement.specs.Log.{Event, asks, At, world, Log, CallAsked}
use Rattle.agreement.proofs.Seven.{get_seven}
use Rattle.agreement.proofs.History.{made_fits}
use Rattle.agreement.proofs.Climbs.{called_place, Parent, step_of, parent_made, parent_lower, parent_of}

pub record LastDone {sv : Service} (h : List (Event sv)) (i : ℕ) (c : Content sv) : Type 0 where
  pub number : ℕ
  pub call : sv.O
  pub time : ℕ
  pub asked : At h time (asks i (place_in c i).incarnation (place_in c i).no number call)
  pub kept : sv.is_read call ≡ false → (k : sv.K) × (get_or c.outcomes i None ≡ Some k)

done_like : {sv : Service} {h : List (Event sv)} {i : ℕ} (c d : Content sv) → place_in d i ≡ place_in c i → get_or d.outcomes i None ≡ get_or c.outcomes i None → LastDone h i c → LastDone h i d
done_like c d e f r = record { number = r.number; call = r.call; time = r.time; asked = rw e r.asked; kept = λ z. let (k, y) = r.kept z in (k, f ∙ y) }

module _ {sv : Service} (h : List (Event sv)) (i : ℕ) (q : Proposal sv) (sev : (length q.content.places ≡ 7) × (length q.content.outcomes ≡ 7)) (ih : 0 < (place_at q i).no → LastDone h i q.content) where
  -- nothing of i has changed
  same_done : (d : Content sv) → place_in d i ≡ place_at q i → get_or d.outcomes i None ≡ get_or q.content.outcomes i None → 0 < (place_in d i).no → LastDone h i d
  same_done d e f lt = done_like q.content d e f (ih (omega (arith, ap (λ (p : Place). p.no) e)))

  other_call : (j : ℕ) (o : sv.O) → (i ≡ j → ⊥) → (place_in (called j o q.content) i ≡ place_at q i) × (get_or (called j o q.content).outcomes i None ≡ get_or q.content.outcomes i None)
  other_call j o n =
      cond_both (sv.is_read o) _ _ (λ (d : Content sv). (place_in d i ≡ place_at q i) × (get_or d.outcomes i None ≡ get_or q.content.outcomes i None)) (λ _. (get_or-set_other q.content.places j i _ _ n, refl))
      (λ _. (get_or-set_other q.content.places j i _ _ n, get_or-set_other q.content.outcomes j i _ _ n))

  own_done : (n t : ℕ) (o : sv.O) → i < 7 → At h t (asks i (roster q i) (suc (place_at q i).no) n o) → LastDone h i (called i o q.content)
  own_done n t o small a =
      record {
        number = n;
        call = o;
        time = t;
        asked = rw (called_place i o q.content (omega (arith, sev.0))) a;
        kept = λ f. (sv.keep o q.content.state, rw f (get_or-set_same q.content.outcomes i (Some (sv.keep o q.content.state)) None (omega (arith, sev.1))));
      }

  changed_done : {d : Content sv} (g : Change q.content d) → i < 7 → CallAsked h q g → 0 < (place_in d i).no → LastDone h i d
  changed_done copied small a lt = ih lt
  changed_done (by_join j x) small a lt = go (cases_eq i j)
    where
      go : (i ≡ j) ⊎ (i ≡ j → ⊥) → LastDone h i (joined j x q.content)
      go (inr n) = same_done (joined j x q.content) (get_or-set_other q.content.places j i _ _ n) (get_or-set_other q.content.outcomes j i _ _ n) lt
      go (inl e) = absurd (let z : get_or (set q.content.places j (fresh_place x)) i (fresh_place 0) ≡ fresh_place x = subst (λ (y : ℕ). get_or (set q.content.places y (fresh_place x)) i (fresh_place 0) ≡ fresh_place x) e (get_or-set_same q.content.places i (fresh_place x) (fresh_place 0) (omega (arith, sev.0))) in omega (arith, ap (λ (y : Place). y.no) z))
  changed_done (by_call j n o) small (_, t, a) lt = go (cases_eq i j)
    where
      go : (i ≡ j) ⊎ (i ≡ j → ⊥) → LastDone h i (called j o q.content)
      go (inr ne) = same_done (called j o q.content) (other_call j o ne).0 (other_call j o ne).1 lt
      go (inl e) = subst (λ (z : ℕ). LastDone h i (called z o q.content)) e (own_done n t o small (rw (← e) at a))

module _ {sv : Service} (all : ℕ) (h : List (Event sv)) (lg : Log all h) (some : 0 < all) (i : ℕ) (small : i < 7) where
  done_below : (n : ℕ) (p : Proposal sv) → id_of p < n → (world all h).Made p → 0 < (place_at p i).no → LastDone h i p.content
  done_below zero p le m lt = absurd (omega arith)
  done_below (suc n) p le m lt = go (done_below n) (parent_of all h lg p m)
    where
      go : ((q : Proposal sv) → id_of q < n → (world all h).Made q → 0 < (place_at q i).no → LastDone h i q.content) → (p ≡ root sv) ⊎ ((q : Proposal sv) × Parent all h q p) → LastDone h i p.content
      go ih (inl e) = absurd (let z = ap (λ (y : Place). y.no) (get_seven (fresh_place 0) i) in omega (arith, ap (λ (y : Proposal sv). (place_at y i).no) e))
      go ih (inr (q, par)) = changed_done h i q (made_fits all some h lg q (parent_made all h par)).arrays (ih q (omega (arith, parent_lower all h par)) (parent_made all h par)) (step_of all h par).change small (step_of all h par).asked lt

  pub last_done : (p : Proposal sv) → (world all h).Made p → 0 < (place_at p i).no → LastDone h i p.content
  last_done p m lt = done_below (suc (id_of p)) p (omega arith) m lt
