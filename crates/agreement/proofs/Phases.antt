-- From stage to stage of a phase: who was elected leads; a leader that settles and proposes anew leads on; a turn of one that recovers leaves the leader leading; and what is bounded at the end.
use Rattle.std.proofs.Common.{◌≡◌, ℕ, suc, ◌*◌, ◌<◌, ◌≤◌, true, false, not, ◌&&◌, List, get_or, Some, None, sym, refl, ap, ◌∙◌, subst, ⊎_elim, arith}
use Rattle.std.proofs.lemmas.List.{get_or-set_same, length-set}
use mathlib.Core.List.{Memᴰ}
use Rattle.std.proofs.lemmas.Bool.{cases_eq, true≢false}
use Rattle.runs.specs.Replicas.{Scene, Seen, Says, there, turned, whole, Goes}
use Rattle.agreement.specs.declared.View.{View}
use Rattle.agreement.specs.declared.Agreement.{Agreement}
use Rattle.agreement.specs.Content.{Service, Proposal, id_of, seven}
use Rattle.agreement.specs.Log.{Event}
use Rattle.agreement.specs.Machine.{Msg, Propose, Mind, accepted, own_vote, making, Turn, code}
use Rattle.agreement.specs.Steady.{Steady}
use Rattle.agreement.proofs.Scenes.{at_same, un_there}
use Rattle.agreement.proofs.Inv.{MindInv}
use Rattle.agreement.proofs.Stages.{Low, Follows, Elected}
use Rattle.agreement.proofs.Steps.{Reaches, rel_at, since_stays, since_said, house_here, house_there, frail_there, whole_stays}
use Rattle.agreement.proofs.Counting.{one_is_no_quorum}
use Rattle.agreement.proofs.CameIn.{came_in_below}
use Rattle.agreement.proofs.Rounds.{Leads, Settled, follows_still, polled, settling}

-- what is bounded of a replica at the end of a phase
pub record Bounded {sv : Service} (st : Steady sv) (d : ℕ) (m : Mind sv) : Type 0 where
  pub view : m.agreement.promised.number ≤ d
  pub held : m.agreement.accepted.view.number ≤ d
  pub size : st.size m.state ≤ 64 * d

-- who follows below p follows below whatever is higher
follows_up : {sv : Service} {st : Steady sv} {d : ℕ} {v : View} {p q : Proposal sv} {t : Scene (Mind sv) (Msg sv)} {j : ℕ} → id_of p ≤ id_of q → Follows st d v p t j → Follows st (suc d) v q t j
follows_up le f = record { mind = f.mind; up = f.up; role = f.role; promised = f.promised; below = omega (arith, f.below); held = omega (arith, f.held); size = omega (arith, f.size) }

own_vote_here : (a : Agreement) (i : ℕ) → a.me ≡ i → i < 7 → get_or (own_vote a) i None ≡ Some a.incarnation
own_vote_here a i e lt = subst (λ (k : ℕ). get_or (own_vote a) k None ≡ Some a.incarnation) e (get_or-set_same (seven None) a.me (Some a.incarnation) None (omega arith))

module _ {sv : Service} (st : Steady sv) (all : ℕ) (two : 2 ≤ all) (small : all ≤ 7) (group : List ℕ) {n : ℕ} {es : List (Seen sv.O sv.R)} (s : Scene (Mind sv) (Msg sv)) (go : Goes (code sv) all n es s) (i : ℕ) (il : i < all) (iw : s.frail i ≡ false) where
  -- the invariant of a replica in a scene that the group comes to
  pub mind_at : (t : Scene (Mind sv) (Msg sv)) → Reaches all group s t → (j : ℕ) (m : Mind sv) → j < all → t.house j ≡ there m → (h : List (Event sv)) × MindInv all h j m
  mind_at t w j m jl e = let (h, r) = rel_at all group s small go t w in (h, r.replicas j m jl e)

  pub leads_elected : (b : ℕ) (m : Mind sv) (e : Elected st all group b s i m) → Leads st all group s i (suc b) e.scene e.mind
  leads_elected b m e =
      record {
        came = (e.seen, e.among);
        frail = e.frail;
        up = e.up;
        role = e.role;
        view = e.view ∙ sym e.promised;
        chosen = e.chosen;
        short = rw e.votes (one_is_no_quorum e.mind.agreement.all e.mind.agreement.places e.mind.agreement (omega (arith, self.1.0.who.all')));
        seats = rw e.votes (length-set (seven None) e.mind.agreement.me (Some e.mind.agreement.incarnation));
        own = rw e.votes (own_vote_here e.mind.agreement i self.1.0.who.me (omega arith));
        number = omega (arith, ap (λ (v : View). v.number) e.promised);
        size = e.size;
        told = λ j jl jc. (e.new, e.posts, e.told j jl jc);
        voters = e.voters;
      }
    where
      self : (h : List (Event sv)) × MindInv all h i e.mind
      self = mind_at e.scene (e.seen, e.among) i e.mind il e.up

  -- i settles, and proposes p as n
  pub leads_next : (d : ℕ) (t : Scene (Mind sv) (Msg sv)) (m : Mind sv) (z : Settled st all group s i d t m) (p : Proposal sv) (o : Mind sv) → (settling (polled z.votes z.heard m)).mind ≡ making p o → o.agreement.all ≡ all → o.agreement.me ≡ i → o.agreement.promised ≡ m.agreement.promised → p.id.view ≡ m.agreement.promised → id_of (accepted m) ≤ id_of p → m.agreement.promised.number ≤ d → st.size p.content.state ≤ 64 * suc d →
      ((j : ℕ) → j < all → (j ≡ i → ⊥) → Memᴰ (Says j (Propose p false)) (settling (polled z.votes z.heard m)).does) → Leads st all group s i (suc d) (turned (code sv) i (settling (polled z.votes z.heard m)) z.before) (making p o)
  leads_next d t m z p o is al me pr view up num size says' =
      record {
        came = z.came;
        frail = λ j. whole_stays all group s z.before i x (z.frail i ∙ iw) j ∙ z.frail j;
        up = house_here all group s z.before i x ∙ ap there is;
        role = refl;
        view = view ∙ sym pr;
        chosen = one_is_no_quorum o.agreement.all p.content.places o.agreement (omega arith);
        short = one_is_no_quorum o.agreement.all p.content.places o.agreement (omega arith);
        seats = length-set (seven None) o.agreement.me (Some o.agreement.incarnation);
        own = own_vote_here o.agreement i me (omega arith);
        number = omega (arith, ap (λ (v : View). v.number) pr);
        size = size;
        told = λ j jl jc. since_said all group s z.before i j (Propose p false) x z.led (says' j jl jc);
        voters = λ j jl jg jw jc. subst (λ (v : View). Follows st (suc d) v p (turned (code sv) i x z.before) j) (sym pr) (follows_up up (follows_still (house_there all group s z.before i x j jc) (z.voters j jl jg jw jc)));
      }
    where
      x : Turn sv
      x = settling (polled z.votes z.heard m)

  -- one that recovers has a turn, and does not become whole
  pub leads_beside : (d : ℕ) (t : Scene (Mind sv) (Msg sv)) (m : Mind sv) → Leads st all group s i d t m → (j : ℕ) (x : Turn sv) → s.frail j ≡ true → whole x.does ≡ false → Reaches all group s (turned (code sv) j x t) → Leads st all group s i d (turned (code sv) j x t) m
  leads_beside d t m a j x jf nw w =
      record {
        came = w;
        frail = frails;
        up = house_there all group s t j x i (λ q. apart i iw q) ∙ a.up;
        role = a.role;
        view = a.view;
        chosen = a.chosen;
        short = a.short;
        seats = a.seats;
        own = a.own;
        number = a.number;
        size = a.size;
        told = λ k kl kc. since_stays all group s t j x _ (a.told k kl kc);
        voters = λ k kl kg kw kc. follows_still (house_there all group s t j x k (λ q. apart k kw q)) (a.voters k kl kg kw kc);
      }
    where
      apart : (k : ℕ) → s.frail k ≡ false → k ≡ j → ⊥
      apart k e q = true≢false (sym jf ∙ (ap s.frail (sym q) ∙ e))

      frails : (k : ℕ) → (turned (code sv) j x t).frail k ≡ s.frail k
      frails k = ⊎_elim (λ q. at_same j (t.frail j && not (whole x.does)) t.frail k q ∙ (rw (nw, a.frail j, jf) refl ∙ (sym jf ∙ ap s.frail (sym q)))) (λ q. frail_there all group s t j x k q ∙ a.frail k) (cases_eq k j)

  -- the bounds of a whole group
  pub low_end : (b d : ℕ) → b ≤ d → Low st all group b s → (t : Scene (Mind sv) (Msg sv)) → Reaches all group s t → ((j : ℕ) (m : Mind sv) → j < all → Memᴰ j group → t.house j ≡ there m → Bounded st d m) → Low st all group d t
  low_end b d le low t w f =
      record {
        views = λ j m jl jg e. (f j m jl jg e).view;
        held = λ j m jl jg e. (f j m jl jg e).held;
        calls = λ j m jl jg e. omega (arith, came_in_below w.1 j b (λ o z. low.calls j o jl jg z) m e);
        sizes = λ j m jl jg e. (f j m jl jg e).size;
      }

  -- those that are as in s are bounded as in s, and those that follow as they follow
  pub bounded_same : (b d : ℕ) → b ≤ d → Low st all group b s → (t : Scene (Mind sv) (Msg sv)) (j : ℕ) → j < all → Memᴰ j group → t.house j ≡ s.house j → (m : Mind sv) → t.house j ≡ there m → Bounded st d m
  bounded_same b d le low t j jl jg e m y = record { view = omega (arith, low.views j m jl jg (sym e ∙ y)); held = omega (arith, low.held j m jl jg (sym e ∙ y)); size = omega (arith, low.sizes j m jl jg (sym e ∙ y)) }

  pub bounded_follows : (d c : ℕ) → c ≤ d → (v : View) (p : Proposal sv) (t : Scene (Mind sv) (Msg sv)) (j : ℕ) → v.number ≤ d → Follows st c v p t j → (m : Mind sv) → t.house j ≡ there m → Bounded st d m
  bounded_follows d c le v p t j vn f m y = rw (← un_there f.mind m (sym f.up ∙ y)) (record { view = omega (arith, ap (λ (z : View). z.number) f.promised); held = omega (arith, f.held); size = omega (arith, f.size) })
