-- Deeds that are added to a turn are the machine's next deeds: those before them mean what they meant, since nothing else changed. And what a leader or a candidate says to all others is what the machine says.
use Rattle.std.proofs.Common.{◌≡◌, ℕ, zero, suc, Bool, true, false, cond, ◌||◌, eqb, List, [], ◌∷◌, ◌++◌, map, get_or, is_some, Some, None, Option, sym, refl, ap, ◌∙◌}
use Rattle.std.proofs.lemmas.Bool.{cond_both}
use Rattle.std.proofs.lemmas.List.{map-append}
use Rattle.runs.specs.Replicas.{Does, Says}
use Rattle.agreement.specs.Machine as Machine
use Rattle.agreement.specs.Machine.{Msg, Mind, accepted, then_do, still, says, to_each, alive_to, word_to, tell, tell_all, tell_done, counts, ask_to, ask_all}
use Rattle.service.specs.Service.{lines}
use Rattle.outbox.specs.declared.Word.{Word}
use Rattle.outbox.specs.declared.Word.TheVariants as word
use Rattle.outbox.specs.declared.Deed.{Deed}
use Rattle.outbox.specs.declared.Deed.TheVariants as deed
use Rattle.outbox.specs.declared.Outbox.{Outbox}
use Rattle.outbox.specs.Deeds.{list_of, eachOf, aliveBy, word_by, tellBy, tellAllBy, askBy, askAllBy, tellDoneBy}
use Rattle.memory.specs.declared.lent.Memory.{Memory}
use Rattle.memory.specs.Keeps.{slot_at}
use Rattle.turning.specs.declared.House.{House}
use Rattle.turning.specs.declared.Turn.{Turn}
use Rattle.turning.specs.Turns.{mind_of, word_of, done_in, turn_of}

pub added_turn : (room : ℕ) (m : Memory) (t : Turn) (o : Outbox) (ds : List Deed) → list_of o ≡ list_of t.outbox ++ ds → ◌≡◌ {A = Machine.Turn (lines room)} (turn_of room (record { house = t.house; outbox = o }) m) (record { does = (turn_of room t m).does ++ map (done_in room t.house m) ds; mind = mind_of room t.house m })
added_turn room m t o ds e =
    ◌∙◌ {A = Machine.Turn (lines room)} (λ i. record { does = map (done_in room t.house m) (e i); mind = mind_of room t.house m })
    (λ i. record { does = map-append (done_in room t.house m) (list_of t.outbox) ds i; mind = mind_of room t.house m })

-- to each of the first n
pub done_each : (room : ℕ) (f : Deed → Does (Msg (lines room)) (List ℕ)) (g : ℕ → List Deed) (h : ℕ → List (Does (Msg (lines room)) (List ℕ))) → ((j : ℕ) → map f (g j) ≡ h j) → (n : ℕ) → map f (eachOf n g) ≡ to_each {sv = lines room} n h
unfolding eachOf to_each
done_each room f g h e zero = refl
done_each room f g h e (suc n) = map-append f (eachOf n g) (g n) ∙ (λ i. done_each room f g h e n i ++ e n i)

-- a function of one of two
pick : {A B : Type 0} (g : A → B) (b : Bool) (x y : A) → g (cond b x y) ≡ cond b (g x) (g y)
pick g true x y = refl
pick g false x y = refl

module _ (room : ℕ) (h : House) (m : Memory) where
  -- a message of the machine, from its header
  abbrev heads : Word → Msg (lines room)
  heads w = word_of room (accepted (mind_of room h m)) (slot_at h.kept m) w

  abbrev dids : List Deed → List (Does (Msg (lines room)) (List ℕ))
  dids ds = map (done_in room h m) ds

  -- what a leader says to the replica j
  pub tell_done_lem : (j : ℕ) → dids (tellBy h.agreement j) ≡ cond (eqb j h.agreement.me) [] (Says j (word_to (mind_of room h m) j) ∷ [])
  tell_done_lem j =
      pick dids (eqb j h.agreement.me) [] (deed.Say j (word_by h.agreement j) ∷ [])
      ∙ ap (λ (w : Msg (lines room)). cond (eqb j h.agreement.me) [] (Says j w ∷ [])) (pick heads (is_some (get_or h.agreement.votes j None)) (aliveBy h.agreement j) (word.Propose h.agreement.chosen))

  -- what a candidate says to the replica j
  pub ask_done : (j : ℕ) → dids (askBy h.agreement j) ≡ ask_to (mind_of room h m) j
  ask_done j = pick dids (eqb j h.agreement.me || counts h.agreement.votes h.agreement.places j) [] (deed.Say j (word.Prepare h.agreement.promised) ∷ [])

  pub tell_all_done : dids (tellAllBy h.agreement) ≡ (tell_all (mind_of room h m)).does
  unfolding tell_all
  tell_all_done = done_each room (done_in room h m) (tellBy h.agreement) _ tell_done_lem h.agreement.all

  pub ask_all_done : dids (askAllBy h.agreement) ≡ (ask_all (mind_of room h m)).does
  unfolding ask_all
  ask_all_done = done_each room (done_in room h m) (askBy h.agreement) _ ask_done h.agreement.all

  -- what the replica whose job it was is told
  pub done_told : (o : Option ℕ) → dids (tellDoneBy h.agreement o) ≡ (tell_done o (mind_of room h m)).does
  unfolding tell_done
  done_told None = refl
  done_told (Some j) = pick dids (eqb j h.agreement.me) [] (deed.Say j (aliveBy h.agreement j) ∷ []) ∙ sym (pick (λ (x : Machine.Turn (lines room)). x.does) (eqb j h.agreement.me) (still (mind_of room h m)) (says j (alive_to (mind_of room h m) j) (mind_of room h m)))

  pub one_told : (j : ℕ) → dids (tellBy h.agreement j) ≡ (tell j (mind_of room h m)).does
  unfolding tell
  one_told j = tell_done_lem j ∙ sym (pick (λ (x : Machine.Turn (lines room)). x.does) (eqb j h.agreement.me) (still (mind_of room h m)) (says j (word_to (mind_of room h m) j) (mind_of room h m)))

  -- whoever only says something has the mind that it had
  pub tell_mind : (j : ℕ) → (tell j (mind_of room h m)).mind ≡ mind_of room h m
  unfolding tell
  tell_mind j = cond_both (eqb j h.agreement.me) _ _ (λ (x : Machine.Turn (lines room)). x.mind ≡ mind_of room h m) (λ _. refl) (λ _. refl)

  pub tell_done_mind : (o : Option ℕ) → (tell_done o (mind_of room h m)).mind ≡ mind_of room h m
  unfolding tell_done
  tell_done_mind None = refl
  tell_done_mind (Some j) = cond_both (eqb j h.agreement.me) _ _ (λ (x : Machine.Turn (lines room)). x.mind ≡ mind_of room h m) (λ _. refl) (λ _. refl)

-- a move that only says something
pub moved_by : (room : ℕ) (m : Memory) (t : Turn) (o : Outbox) (ds : List Deed) (f : Mind (lines room) → Machine.Turn (lines room)) → list_of o ≡ list_of t.outbox ++ ds → map (done_in room t.house m) ds ≡ (f (mind_of room t.house m)).does → (f (mind_of room t.house m)).mind ≡ mind_of room t.house m →
    ◌≡◌ {A = Machine.Turn (lines room)} (turn_of room (record { house = t.house; outbox = o }) m) (then_do (turn_of room t m) f)
unfolding then_do
moved_by room m t o ds f e d k =
    ◌∙◌ {A = Machine.Turn (lines room)} (added_turn room m t o ds e) (λ i. record { does = (turn_of room t m).does ++ d i; mind = sym k i })
