-- What is written is read again, whatever follows it: each reader at what its writer wrote. Assumes nothing.
use Rattle.std.proofs.Common.{◌≡◌, ℕ, suc, ◌<◌, Bool, true, false, cond, ◌&&◌, leb, List, [], ◌∷◌, ◌++◌, length, take, drop, Some, None, Option, sym, refl, ap, ◌∙◌, append_assoc, append-nil, arith, length-append}
use Rattle.std.proofs.lemmas.List.{take_at, drop_at}
use Rattle.std.proofs.lemmas.Bool.{and_parts, ltb-true, le-leb}
use Rattle.model.specs.Tree.{Name, Path, Expect, Any, Version, Act, Make, Put, Drop, Check, Do, Look, Kids, Open, End, No, Done, Entry', Names, Session, every}
use Rattle.lent_bytes.specs.Numbers.{be4, be8, be32, be64}
use Rattle.lent_bytes.specs.Paths.{name_bytes, path_bytes}
use Rattle.lent_bytes.proofs.Rounds.{read_be4, read_be8, length_be4, length_be8}
use Rattle.calls.specs.Format.{and_then, part_at, length_at, number_at, name_at, names_at, many_at, many_written, path_at, path_written, value_at, value_written, flag_at, flag_written, expect_at, expect_written, make_at, put_at, drop_act_at, check_at, act_at, acts_at, act_written, wholly, encode_call, encode_reply}
use Rattle.calls.specs.Laws.{small, short, fits_expect, fits_act, fits_call, fits_reply, CallsAreReadAgain, RepliesAreReadAgain}
use Rattle.calls.proofs.Back.{path_many}

pub part_again : (p ys : List ℕ) (n : ℕ) → length p ≡ n → part_at n (p ++ ys) ≡ Some (p, ys)
part_again p ys n e =
    let test : leb n (length (p ++ ys)) ≡ true = le-leb n (length (p ++ ys)) (omega (arith, length-append p ys)) in
    (λ i. cond {A = Option (List ℕ × List ℕ)} (test i) (Some (take n (p ++ ys), drop n (p ++ ys))) None) ∙ (λ i. Some (take_at p ys n e i, drop_at p ys n e i))

pub number_again : (n : ℕ) (ys : List ℕ) → small n ≡ true → number_at (be8 n ++ ys) ≡ Some (n, ys)
number_again n ys h =
    ap (λ (o : Option (List ℕ × List ℕ)). and_then o (λ r. Some (be64 r.0 0, r.1))) (part_again (be8 n) ys 8 (length_be8 n)) ∙
    (λ i. Some ((ap (λ (l : List ℕ). be64 l 0) (sym (append-nil (be8 n))) ∙ read_be8 n [] (ltb-true n 18446744073709551616 h)) i, ys))

pub length_again : (n : ℕ) (ys : List ℕ) → n < 4294967296 → length_at (be4 n ++ ys) ≡ Some (n, ys)
length_again n ys h =
    ap (λ (o : Option (List ℕ × List ℕ)). and_then o (λ r. Some (be32 r.0 0, r.1))) (part_again (be4 n) ys 4 (length_be4 n)) ∙
    (λ i. Some ((ap (λ (l : List ℕ). be32 l 0) (sym (append-nil (be4 n))) ∙ read_be4 n [] h) i, ys))

pub value_again : (v ys : List ℕ) → short v ≡ true → value_at (value_written v ++ ys) ≡ Some (v, ys)
value_again v ys h =
    ap value_at (append_assoc (be4 (length v)) v ys) ∙
    ap (λ (o : Option (ℕ × List ℕ)). and_then o (λ n. part_at n.0 n.1)) (length_again (length v) (v ++ ys) (ltb-true (length v) 4294967296 h)) ∙ part_again v ys (length v) refl

pub name_again : (n : Name) (ys : List ℕ) → name_at (name_bytes n ++ ys) ≡ Some (n, ys)
name_again n ys = part_again n ys (length n) refl

module _ {A : Type 0} (f : List ℕ → Option (A × List ℕ)) (w : A → List ℕ) (ok : A → Bool) (one : (x : A) (ys : List ℕ) → ok x ≡ true → f (w x ++ ys) ≡ Some (x, ys)) where
  pub many_again : (as' : List A) (ys : List ℕ) → every ok as' ≡ true → many_at f (length as') (many_written w as' ++ ys) ≡ Some (as', ys)
  unfolding many_at many_written every
  many_again [] ys h = refl
  many_again (a ∷ as') ys h =
      let both = and_parts (ok a) (every ok as') h in
      ap (λ (l : List ℕ). many_at f (suc (length as')) l) (append_assoc (w a) (many_written w as') ys) ∙
      ap (λ (o : Option (A × List ℕ)). and_then o (λ r. and_then (many_at f (length as') r.1) (λ q. Some (r.0 ∷ q.0, q.1)))) (one a (many_written w as' ++ ys) both.0) ∙
      ap (λ (o : Option (List A × List ℕ)). and_then o (λ q. Some (a ∷ q.0, q.1))) (many_again as' ys both.1)

every_always : {A : Type 0} (as' : List A) → every (λ (x : A). true) as' ≡ true
unfolding every
every_always [] = refl
every_always (a ∷ as') = every_always as'

pub names_again : (p : Path) (ys : List ℕ) → names_at (length p) (path_bytes p ++ ys) ≡ Some (p, ys)
names_again p ys =
    ap (λ (l : List ℕ). names_at (length p) (l ++ ys)) (sym (path_many p)) ∙ many_again name_at name_bytes (λ n. true) (λ n zs h. name_again n zs) p ys (every_always p)

pub path_again : (p : Path) (ys : List ℕ) → path_at (path_written p ++ ys) ≡ Some (p, ys)
path_again p ys = names_again p ys

pub flag_again : (b : Bool) (ys : List ℕ) → flag_at (flag_written b ∷ ys) ≡ Some (b, ys)
flag_again true ys = refl
flag_again false ys = refl

pub expect_again : (x : Expect) (ys : List ℕ) → fits_expect x ≡ true → expect_at (expect_written x ++ ys) ≡ Some (x, ys)
expect_again Any ys h = refl
expect_again (Version n) ys h = ap (λ (o : Option (ℕ × List ℕ)). and_then o (λ r. Some (Version r.0, r.1))) (number_again n ys h)

-- one reader behind another
pub onward : {A B : Type 0} (o : Option (A × List ℕ)) (g : A × List ℕ → Option B) (x : A) (ys : List ℕ) (z : B) → o ≡ Some (x, ys) → g (x, ys) ≡ Some z → and_then o g ≡ Some z
onward {A} o g x ys z e h = ap (λ (q : Option (A × List ℕ)). and_then q g) e ∙ h

pub regroup : (a b c d : List ℕ) → (a ++ (b ++ c)) ++ d ≡ a ++ (b ++ (c ++ d))
regroup a b c d = append_assoc a (b ++ c) d ∙ ap (λ (l : List ℕ). a ++ l) (append_assoc b c d)

pub act_again : (a : Act) (ys : List ℕ) → fits_act a ≡ true → act_at (act_written a ++ ys) ≡ Some (a, ys)
unfolding fits_act act_written
act_again (Make p v n o) ys h =
    let both = and_parts (short v) (small o) h in
    ap make_at (regroup (path_written p) (value_written v) (flag_written n ∷ be8 o) ys) ∙
    onward (path_at (path_written p ++ (value_written v ++ (flag_written n ∷ (be8 o ++ ys))))) _ p (value_written v ++ (flag_written n ∷ (be8 o ++ ys))) _ (path_again p _)
    (onward (value_at (value_written v ++ (flag_written n ∷ (be8 o ++ ys)))) _ v (flag_written n ∷ (be8 o ++ ys)) _ (value_again v _ both.0)
    (onward (flag_at (flag_written n ∷ (be8 o ++ ys))) _ n (be8 o ++ ys) _ (flag_again n _)
    (onward (number_at (be8 o ++ ys)) _ o ys _ (number_again o ys both.1) refl)))
act_again (Put p v x) ys h =
    let both = and_parts (short v) (fits_expect x) h in
    ap put_at (regroup (path_written p) (value_written v) (expect_written x) ys) ∙
    onward (path_at (path_written p ++ (value_written v ++ (expect_written x ++ ys)))) _ p (value_written v ++ (expect_written x ++ ys)) _ (path_again p _)
    (onward (value_at (value_written v ++ (expect_written x ++ ys))) _ v (expect_written x ++ ys) _ (value_again v _ both.0)
    (onward (expect_at (expect_written x ++ ys)) _ x ys _ (expect_again x ys both.1) refl))
act_again (Drop p x) ys h =
    ap drop_act_at (append_assoc (path_written p) (expect_written x) ys) ∙
    onward (path_at (path_written p ++ (expect_written x ++ ys))) _ p (expect_written x ++ ys) _ (path_again p _) (onward (expect_at (expect_written x ++ ys)) _ x ys _ (expect_again x ys h) refl)
act_again (Check p x) ys h =
    ap check_at (append_assoc (path_written p) (expect_written x) ys) ∙
    onward (path_at (path_written p ++ (expect_written x ++ ys))) _ p (expect_written x ++ ys) _ (path_again p _) (onward (expect_at (expect_written x ++ ys)) _ x ys _ (expect_again x ys h) refl)

-- nothing stands behind a thing that is all of the bytes
pub wholly_again : {A : Type 0} (f : List ℕ → Option (A × List ℕ)) (ws : List ℕ) (x : A) → f (ws ++ []) ≡ Some (x, []) → and_then (f ws) wholly ≡ Some x
wholly_again {A} f ws x e = ap (λ (l : List ℕ). and_then (f l) wholly) (sym (append-nil ws)) ∙ ap (λ (o : Option (A × List ℕ)). and_then o wholly) e

pub calls_again : CallsAreReadAgain
unfolding fits_call encode_call
calls_again (Do as') h = ap (λ (o : Option (List Act)). and_then o (λ bs. Some (Do bs))) (wholly_again (acts_at (length as')) (many_written act_written as') as' (many_again act_at act_written fits_act act_again as' [] h))
calls_again (Look p) h = ap (λ (o : Option Path). and_then o (λ q. Some (Look q))) (wholly_again path_at (path_written p) p (path_again p []))
calls_again (Kids p) h = ap (λ (o : Option Path). and_then o (λ q. Some (Kids q))) (wholly_again path_at (path_written p) p (path_again p []))
calls_again Open h = refl
calls_again (End k) h = ap (λ (o : Option ℕ). and_then o (λ j. Some (End j))) (wholly_again number_at (be8 k) k (number_again k [] h))

pub replies_again : RepliesAreReadAgain
unfolding fits_reply encode_reply
replies_again (No a k) h = refl
replies_again (Done ps) h = ap (λ (o : Option (List Path)). and_then o (λ qs. Some (Done qs))) (wholly_again (many_at path_at (length ps)) (many_written path_written ps) ps (many_again path_at path_written (λ p. true) (λ p ys e. path_again p ys) ps [] (every_always ps)))
replies_again (Entry' v n m c k o) h =
    let a = and_parts (short v) (small n && (small m && (small c && (small k && small o)))) h in
    let b = and_parts (small n) (small m && (small c && (small k && small o))) a.1 in
    let d = and_parts (small m) (small c && (small k && small o)) b.1 in
    let e = and_parts (small c) (small k && small o) d.1 in
    let f = and_parts (small k) (small o) e.1 in
    onward (value_at (value_written v ++ (be8 n ++ (be8 m ++ (be8 c ++ (be8 k ++ be8 o)))))) _ v (be8 n ++ (be8 m ++ (be8 c ++ (be8 k ++ be8 o)))) _ (value_again v _ a.0)
    (onward (number_at (be8 n ++ (be8 m ++ (be8 c ++ (be8 k ++ be8 o))))) _ n (be8 m ++ (be8 c ++ (be8 k ++ be8 o))) _ (number_again n _ b.0)
    (onward (number_at (be8 m ++ (be8 c ++ (be8 k ++ be8 o)))) _ m (be8 c ++ (be8 k ++ be8 o)) _ (number_again m _ d.0)
    (onward (number_at (be8 c ++ (be8 k ++ be8 o))) _ c (be8 k ++ be8 o) _ (number_again c _ e.0)
    (onward (number_at (be8 k ++ be8 o)) _ k (be8 o) _ (number_again k _ f.0)
    (onward (number_at (be8 o)) _ o [] _ (ap number_at (sym (append-nil (be8 o))) ∙ number_again o [] f.1) refl)))))
replies_again (Names ns) h =
    onward (length_at (be4 (length ns) ++ path_bytes ns)) _ (length ns) (path_bytes ns) _ (length_again (length ns) (path_bytes ns) (ltb-true (length ns) 4294967296 h))
    (ap (λ (o : Option Path). and_then o (λ q. Some (Names q))) (wholly_again (names_at (length ns)) (path_bytes ns) ns (names_again ns [])))
replies_again (Session k) h = ap (λ (o : Option ℕ). and_then o (λ j. Some (Session j))) (wholly_again number_at (be8 k) k (number_again k [] h))
