-- Bytes of the shape of a refusal, a session or an entry are read as just that, with the numbers that stand at its places; so what is written of what they are read as is what is told by their shape.
use Rattle.std.proofs.Common.{◌≡◌, ℕ, ◌+◌, ◌-◌, ◌≤◌, Bool, true, false, cond, ◌&&◌, eqb, leb, List, [], ◌∷◌, length, get_or, take, drop, Some, None, Option, MatchBool, sym, refl, ap, ◌∙◌, arith}
use Rattle.std.proofs.lemmas.Bool.{and_parts, eqb-true, leb-true, le-leb, false≢true}
use Rattle.std.proofs.lemmas.List.{drop-drop, drop_all, length-drop}
use Rattle.std.specs.Option.{option_map}
use Rattle.model.specs.Tree.{Reply, No, Entry', Session}
use Rattle.lent_bytes.specs.Numbers.{be32, be64}
use Rattle.lent_bytes.proofs.Places.{be32_take, be32_drop, be64_take, be64_drop}
use Rattle.calls.specs.Format.{and_then, part_at, length_at, number_at, value_at, wholly, owner_at, kids_at, changed_at, made_at, version_at, reply_by, decode_reply}
use Rattle.calls.proofs.Again.{onward}
use Rattle.replies.specs.Answers.{reply_spelled}
use Rattle.replies.specs.ByShape.{is_refusal, is_session, is_entry, AnswerSpelled}

-- a part, a length and a number at the front
part_front : (n : ℕ) (xs : List ℕ) → n ≤ length xs → part_at n xs ≡ Some (take n xs, drop n xs)
part_front n xs h = ap (λ (t : Bool). cond {A = Option (List ℕ × List ℕ)} t (Some (take n xs, drop n xs)) None) (le-leb n (length xs) h)

length_front : (xs : List ℕ) → 4 ≤ length xs → length_at xs ≡ Some (be32 xs 0, drop 4 xs)
length_front xs h =
    ap (λ (o : Option (List ℕ × List ℕ)). and_then o (λ r. Some (be32 r.0 0, r.1))) (part_front 4 xs h) ∙ ap (λ (n : ℕ). Some (n, drop 4 xs)) (be32_take 4 xs 0 (omega arith))

number_front : (xs : List ℕ) → 8 ≤ length xs → number_at xs ≡ Some (be64 xs 0, drop 8 xs)
number_front xs h =
    ap (λ (o : Option (List ℕ × List ℕ)). and_then o (λ r. Some (be64 r.0 0, r.1))) (part_front 8 xs h) ∙ ap (λ (n : ℕ). Some (n, drop 8 xs)) (be64_take 8 xs 0 (omega arith))

-- a number at a place
number_behind : (xs : List ℕ) (i j : ℕ) → j ≡ i + 8 → j ≤ length xs → number_at (drop i xs) ≡ Some (be64 xs i, drop j xs)
number_behind xs i j e h =
    let here : be64 (drop i xs) 0 ≡ be64 xs i = be64_drop i xs 0 ∙ ap (λ (k : ℕ). be64 xs k) (omega arith) in
    let rest : drop 8 (drop i xs) ≡ drop j xs = drop-drop 8 i xs ∙ ap (λ (k : ℕ). drop k xs) (sym e) in
    number_front (drop i xs) (omega (arith, length-drop i xs)) ∙ (λ k. Some (here k, rest k))

refusal_read : (bs : List ℕ) → is_refusal bs ≡ true → decode_reply bs ≡ Some (No (get_or bs 1 0) (get_or bs 2 0))
refusal_read [] e = absurd (false≢true e)
refusal_read (b ∷ []) e = absurd (false≢true e)
refusal_read (b ∷ a ∷ []) e = absurd (false≢true e)
refusal_read (b ∷ a ∷ k ∷ []) e = ap (λ (n : ℕ). reply_by n (a ∷ k ∷ [])) (eqb-true b 0 e)
refusal_read (b ∷ a ∷ k ∷ x ∷ xs) e =
    let long : length (b ∷ a ∷ k ∷ x ∷ xs) ≡ 3 = eqb-true (length (b ∷ a ∷ k ∷ x ∷ xs)) 3 (and_parts (eqb (length (b ∷ a ∷ k ∷ x ∷ xs)) 3) (eqb b 0) e).0 in
    absurd (omega arith)

session_read : (bs : List ℕ) → is_session bs ≡ true → decode_reply bs ≡ Some (Session (be64 bs 1))
session_read [] e = absurd (false≢true e)
session_read (b ∷ xs) e =
    let both = and_parts (eqb (length (b ∷ xs)) 9) (eqb b 4) e in
    let long : length (b ∷ xs) ≡ 9 = eqb-true (length (b ∷ xs)) 9 both.0 in
    let number : number_at xs ≡ Some (be64 (b ∷ xs) 1, []) = number_front xs (omega arith) ∙ (λ i. Some (be64_drop 1 (b ∷ xs) 0 i, drop_all 8 xs (omega arith) i)) in
    ap (λ (n : ℕ). reply_by n xs) (eqb-true b 4 both.1) ∙ ap (λ (o : Option (ℕ × List ℕ)). and_then (and_then o wholly) (λ k. Some (Session k))) number

-- the five counts behind a value
counts_read : (v xs : List ℕ) → length xs ≡ 40 → version_at v xs ≡ Some (Entry' v (be64 xs 0) (be64 xs 8) (be64 xs 16) (be64 xs 24) (be64 xs 32))
counts_read v xs h =
    onward (number_at xs) (λ n. made_at v n.0 n.1) (be64 xs 0) (drop 8 xs) _ (number_front xs (omega arith))
    (onward (number_at (drop 8 xs)) (λ m. changed_at v (be64 xs 0) m.0 m.1) (be64 xs 8) (drop 16 xs) _ (number_behind xs 8 16 refl (omega arith))
    (onward (number_at (drop 16 xs)) (λ c. kids_at v (be64 xs 0) (be64 xs 8) c.0 c.1) (be64 xs 16) (drop 24 xs) _ (number_behind xs 16 24 refl (omega arith))
    (onward (number_at (drop 24 xs)) (λ k. owner_at v (be64 xs 0) (be64 xs 8) (be64 xs 16) k.0 k.1) (be64 xs 24) (drop 32 xs) _ (number_behind xs 24 32 refl (omega arith))
    (onward (number_at (drop 32 xs)) (λ o. wholly (Entry' v (be64 xs 0) (be64 xs 8) (be64 xs 16) (be64 xs 24) o.0, o.1)) (be64 xs 32) (drop 40 xs) _ (number_behind xs 32 40 refl (omega arith))
    (ap (λ (l : List ℕ). wholly (Entry' v (be64 xs 0) (be64 xs 8) (be64 xs 16) (be64 xs 24) (be64 xs 32), l)) (drop_all 40 xs (omega arith)))))))

-- a value behind its length, and the counts behind the value
value_read : (bs xs : List ℕ) → drop 1 bs ≡ xs → 45 ≤ length bs → be32 bs 1 + 45 ≡ length bs → value_at xs ≡ Some (take (length bs - 45) (drop 5 bs), drop (length bs - 40) bs)
value_read bs xs e h l =
    let size : be32 xs 0 ≡ length bs - 45 = ap (λ (ys : List ℕ). be32 ys 0) (sym e) ∙ (be32_drop 1 bs 0 ∙ omega arith) in
    let behind : drop 4 xs ≡ drop 5 bs = ap (drop 4) (sym e) ∙ drop-drop 4 1 bs in
    let long : length xs ≡ length bs - 1 = ap length (sym e) ∙ length-drop 1 bs in
    let rest : drop (length bs - 45) (drop 5 bs) ≡ drop (length bs - 40) bs = drop-drop (length bs - 45) 5 bs ∙ ap (λ (k : ℕ). drop k bs) (omega arith) in
    ap (λ (o : Option (ℕ × List ℕ)). and_then o (λ n. part_at n.0 n.1)) (length_front xs (omega arith) ∙ (λ i. Some (size i, behind i)))
    ∙ (part_front (length bs - 45) (drop 5 bs) (omega (arith, length-drop 5 bs)) ∙ ap (λ (ys : List ℕ). Some (take (length bs - 45) (drop 5 bs), ys)) rest)

entry_read : (bs : List ℕ) → is_entry bs ≡ true → let counts = drop (length bs - 40) bs in decode_reply bs ≡ Some (Entry' (take (length bs - 45) (drop 5 bs)) (be64 counts 0) (be64 counts 8) (be64 counts 16) (be64 counts 24) (be64 counts 32))
entry_read [] e = absurd (false≢true e)
entry_read (b ∷ xs) e =
    let all = and_parts (leb 45 (length (b ∷ xs)) && eqb b 2) (eqb (be32 (b ∷ xs) 1 + 45) (length (b ∷ xs))) e in
    let front = and_parts (leb 45 (length (b ∷ xs))) (eqb b 2) all.0 in
    let much : 45 ≤ length (b ∷ xs) = leb-true 45 (length (b ∷ xs)) front.0 in
    let size : be32 (b ∷ xs) 1 + 45 ≡ length (b ∷ xs) = eqb-true (be32 (b ∷ xs) 1 + 45) (length (b ∷ xs)) all.1 in
    ap (λ (n : ℕ). reply_by n xs) (eqb-true b 2 front.1)
    ∙ onward (value_at xs) (λ v. version_at v.0 v.1) (take (length (b ∷ xs) - 45) (drop 5 (b ∷ xs))) (drop (length (b ∷ xs) - 40) (b ∷ xs)) _ (value_read (b ∷ xs) xs refl much size)
    (counts_read (take (length (b ∷ xs) - 45) (drop 5 (b ∷ xs))) (drop (length (b ∷ xs) - 40) (b ∷ xs)) (length-drop (length (b ∷ xs) - 40) (b ∷ xs) ∙ omega arith))

where_true : (b : Bool) (P Q : Type 0) → (b ≡ true → P) → Q → MatchBool b P Q
where_true true P Q p q = p refl
where_true false P Q p q = q

-- bytes that are read as an answer have its words
module _ (bs : List ℕ) (text : Option (List ℕ)) (read : text ≡ option_map reply_spelled (decode_reply bs)) where
  words : (r : Reply) → decode_reply bs ≡ Some r → text ≡ Some (reply_spelled r)
  words r e = read ∙ ap (option_map reply_spelled) e

  pub by_shape : AnswerSpelled bs text
  unfolding reply_spelled
  by_shape =
      where_true (is_refusal bs) _ _ (λ e. words _ (refusal_read bs e))
      (where_true (is_session bs) _ _ (λ e. words _ (session_read bs e)) (where_true (is_entry bs) _ _ (λ e. words _ (entry_read bs e)) tt))
