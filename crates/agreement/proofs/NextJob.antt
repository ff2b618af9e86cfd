-- The next job of a leader: none where nothing is asked for; the one join, or else the own oldest call, where that is all that is asked for.
use Rattle.std.proofs.Common.{◌≡◌, ℕ, ◌<◌, true, false, cond, eqb, List, [], ◌∷◌, get_or, set, is_some, Some, None, Option, sym, refl, ap, ◌∙◌, arith}
use Rattle.std.proofs.lemmas.List.{get_or-set_other, get_or-set_same}
use Rattle.std.specs.Option.{option_or}
use Rattle.std.proofs.lemmas.Bool.Decides.{nat_tests}
use Rattle.std.proofs.lemmas.Bool.{cond_both, cond-true, cond-false, eq-eqb, ne_eqb, and_right}
use Rattle.agreement.specs.declared.Joining.{Joining}
use Rattle.agreement.specs.Content.{Service, seven, called, joined}
use Rattle.agreement.specs.Machine.{Forwarded, Waiting, Mind, accepted, content_of, Turn, still, Job, DoCall, DoJoin, call_fits, join_fits, call_job, join_job, own_call, own_head, join_at, call_at, first_of, next_job, proposes, next_of, job_of, with_joins, with_calls, does, may_serve, serve, has_job}
use Rattle.agreement.proofs.Seven.{get_seven}
use Rattle.agreement.proofs.Settling.{first_none, first_only, far_from}

far_below : (n i j : ℕ) → i < n → j < n → far_from n i j < n
far_below n i j il jl = grind (arith, nat_tests)

module _ {sv : Service} (m : Mind sv) where
  -- nothing is asked for
  joins_none : m.agreement.joins ≡ seven None → first_of (join_at m) m ≡ None
  joins_none e = first_none (join_at m) (λ j. ap (λ (o : Option Joining). join_job (accepted m) j o) (ap (λ (l : List (Option Joining)). get_or l j None) e ∙ get_seven None j)) m.agreement.all m.agreement.all m.agreement.turn

  calls_none : m.calls ≡ seven None → (j : ℕ) → get_or m.calls j None ≡ None
  calls_none e j = ap (λ (l : List (Option (Forwarded sv))). get_or l j None) e ∙ get_seven None j

  pub nothing_next : m.agreement.joins ≡ seven None → m.calls ≡ seven None → m.waiting ≡ [] → next_job m ≡ None
  unfolding own_head
  nothing_next e f w =
      ap (λ (o : Option (Job sv)). option_or o (first_of (call_at m) m)) (joins_none e)
      ∙ first_none (call_at m) (λ j. ap (λ (o : Option (Forwarded sv)). call_job (accepted m) j o) (none' j)) m.agreement.all m.agreement.all m.agreement.turn
    where
      none' : (j : ℕ) → cond (eqb j m.agreement.me) (own_head m.waiting m) (get_or m.calls j None) ≡ None
      none' j = cond_both (eqb j m.agreement.me) (own_head m.waiting m) (get_or m.calls j None) (λ (o : Option (Forwarded sv)). o ≡ None) (λ _. ap (λ (ts : List (Waiting sv)). own_head ts m) w) (λ _. calls_none f j)

  pub has_none : next_job m ≡ None → has_job m ≡ false
  has_none e = and_right (may_serve m) (is_some (next_job m)) (ap is_some e)

  pub serve_none : next_job m ≡ None → serve m ≡ still m
  unfolding serve does
  serve_none e = cond_both (may_serve m) (does (next_job m) m) (still m) (λ (x : Turn sv). x ≡ still m) (λ _. ap (λ (o : Option (Job sv)). does o m) e) (λ _. refl)

  -- one join is asked for
  module _ (j : ℕ) (q : Joining) (jl : j < m.agreement.all) (jl' : j < 7) (tl : m.agreement.turn < m.agreement.all) (js : m.agreement.joins ≡ set (seven None) j (Some q)) (fits : join_fits j q (accepted m) ≡ true) where
    here' : join_at m j ≡ Some (DoJoin j q)
    here' = ap (λ (o : Option Joining). join_job (accepted m) j o) (ap (λ (l : List (Option Joining)). get_or l j None) js ∙ get_or-set_same (seven None) j (Some q) None (omega arith)) ∙ cond-true (join_fits j q (accepted m)) (Some (DoJoin j q)) None fits

    else' : (k : ℕ) → (k ≡ j → ⊥) → join_at m k ≡ None
    else' k n = ap (λ (o : Option Joining). join_job (accepted m) k o) (ap (λ (l : List (Option Joining)). get_or l k None) js ∙ (get_or-set_other (seven None) j k (Some q) None n ∙ get_seven None k))

    join_next : next_job m ≡ Some (DoJoin j q)
    join_next = ap (λ (o : Option (Job sv)). option_or o (first_of (call_at m) m)) (first_only (join_at m) (DoJoin j q) m.agreement.all j jl here' else' m.agreement.all m.agreement.turn tl (far_below m.agreement.all j m.agreement.turn jl tl))

    pub serve_join : may_serve m ≡ true → serve m ≡ proposes (next_of (joined j q.incarnation (content_of m)) (accepted m)) (with_joins (set m.agreement.joins j None) (job_of j m))
    unfolding serve does
    serve_join e = cond-true (may_serve m) (does (next_job m) m) (still m) e ∙ ap (λ (o : Option (Job sv)). does o m) join_next

  -- only the own oldest call is asked for
  module _ (i : ℕ) (t : Waiting sv) (ts : List (Waiting sv)) (il : i < m.agreement.all) (me : m.agreement.me ≡ i) (tl : m.agreement.turn < m.agreement.all) (js : m.agreement.joins ≡ seven None) (cs : m.calls ≡ seven None) (ws : m.waiting ≡ t ∷ ts) (fits : call_fits i (own_call t m) (accepted m) ≡ true) where
    mine : call_at m i ≡ Some (DoCall i (own_call t m))
    unfolding own_head
    mine =
        ap (λ (o : Option (Forwarded sv)). call_job (accepted m) i o) (cond-true (eqb i m.agreement.me) (own_head m.waiting m) (get_or m.calls i None) (eq-eqb i m.agreement.me (sym me)) ∙ ap (λ (l : List (Waiting sv)). own_head l m) ws)
        ∙ cond-true (call_fits i (own_call t m) (accepted m)) (Some (DoCall i (own_call t m))) None fits

    theirs : (k : ℕ) → (k ≡ i → ⊥) → call_at m k ≡ None
    theirs k n = ap (λ (o : Option (Forwarded sv)). call_job (accepted m) k o) (cond-false (eqb k m.agreement.me) (own_head m.waiting m) (get_or m.calls k None) (ne_eqb k m.agreement.me (λ q. n (q ∙ me))) ∙ calls_none cs k)

    call_next : next_job m ≡ Some (DoCall i (own_call t m))
    call_next =
        ap (λ (o : Option (Job sv)). option_or o (first_of (call_at m) m)) (joins_none js)
        ∙ first_only (call_at m) (DoCall i (own_call t m)) m.agreement.all i il mine theirs m.agreement.all m.agreement.turn tl (far_below m.agreement.all i m.agreement.turn il tl)

    pub serve_call : may_serve m ≡ true → serve m ≡ proposes (next_of (called i t.call (content_of m)) (accepted m)) (with_calls (set m.calls i None) (job_of i m))
    unfolding serve does
    serve_call e = cond-true (may_serve m) (does (next_job m) m) (still m) e ∙ ap (λ (o : Option (Job sv)). does o m) call_next
