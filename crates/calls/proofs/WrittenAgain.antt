-- What bytes are read as is written as those bytes again, numbers included: whole calls and answers. Assumes nothing.
use Rattle.std.proofs.Common.{◌≡◌, ℕ, suc, ◌+◌, ◌*◌, ◌/◌, ◌%◌, Bool, true, false, cond, eqb, ◌⊎◌, List, [], ◌∷◌, ◌++◌, length, Some, None, Option, sym, refl, ap, ◌∙◌, subst, inl, inr, ⊎_elim, append_assoc, append-nil, arith}
use Rattle.std.proofs.lemmas.Bool.{eqb-true}
use Rattle.model.specs.Tree.{Path, Expect, Any, Version, Act, Make, Put, Drop, Check, Call, Do, Look, Kids, Open, End, Reply, No, Done, Entry', Names, Session}
use Rattle.lent_bytes.specs.Numbers.{be4, be8, be32, be64}
use Rattle.lent_bytes.specs.Paths.{path_bytes}
use Rattle.calls.specs.Format.{and_then, byte_at, part_at, length_at, number_at, names_at, many_at, many_written, path_at, path_written, value_at, value_written, flag_at, flag_by, flag_written, expect_at, expect_by, expect_written, act_at, act_by, acts_at, act_written, make_at, put_at, expecting_at, drop_act_at, check_at, wholly, whole_path, do_at, end_at, call_by, encode_call, encode_reply, refused_at, done_at, owner_at, kids_at, changed_at, made_at, version_at, entry_at, names_in, session_at, reply_by}
use Rattle.calls.specs.Laws.{Bytes, CallsAreWrittenAgain, RepliesAreWrittenAgain}
use Rattle.calls.proofs.Again.{regroup}
use Rattle.calls.proofs.Back.{some_parts, then_some, byte_back, part_back, many_back, names_back}

pub behind : (xs ys : List ℕ) → Bytes (xs ++ ys) → Bytes ys
behind [] ys h = h
behind (x ∷ xs) ys h = behind xs ys h.1

pub front : (xs ys : List ℕ) → Bytes (xs ++ ys) → Bytes xs
front [] ys h = tt
front (x ∷ xs) ys h = (h.0, front xs ys h.1)

pub four : (xs : List ℕ) → length xs ≡ 4 → Bytes xs → be4 (be32 xs 0) ≡ xs
unfolding be4 be32
four (a ∷ b ∷ c ∷ d ∷ []) l h =
    let ha = h.0 in
    let hb = h.1.0 in
    let hc = h.1.1.0 in
    let hd = h.1.1.1.0 in
    let n = a * 16777216 + b * 65536 + c * 256 + d in
    let p : n / 16777216 % 256 ≡ a = omega arith in
    let q : n / 65536 % 256 ≡ b = omega arith in
    let r : n / 256 % 256 ≡ c = omega arith in
    let s : n % 256 ≡ d = omega arith in
    λ i. p i ∷ q i ∷ r i ∷ s i ∷ []
four [] l h = absurd (omega arith)
four (a ∷ []) l h = absurd (omega arith)
four (a ∷ b ∷ []) l h = absurd (omega arith)
four (a ∷ b ∷ c ∷ []) l h = absurd (omega arith)
four (a ∷ b ∷ c ∷ d ∷ e ∷ xs) l h = absurd (omega arith)

-- a list of so many, one by one
take_first : (n : ℕ) (xs : List ℕ) → length xs ≡ suc n → (x : ℕ) × (ys : List ℕ) × (xs ≡ x ∷ ys) × (length ys ≡ n)
take_first n [] l = absurd (omega arith)
take_first n (x ∷ ys) l = (x, ys, refl, omega arith)

eight_bytes : (a b c d e f g k : ℕ) → Bytes (a ∷ b ∷ c ∷ d ∷ e ∷ f ∷ g ∷ k ∷ []) → be8 (be64 (a ∷ b ∷ c ∷ d ∷ e ∷ f ∷ g ∷ k ∷ []) 0) ≡ a ∷ b ∷ c ∷ d ∷ e ∷ f ∷ g ∷ k ∷ []
unfolding be8 be64
eight_bytes a b c d e f g k h =
    let ha = h.0 in
    let hb = h.1.0 in
    let hc = h.1.1.0 in
    let hd = h.1.1.1.0 in
    let he = h.1.1.1.1.0 in
    let hf = h.1.1.1.1.1.0 in
    let hg = h.1.1.1.1.1.1.0 in
    let hk = h.1.1.1.1.1.1.1.0 in
    let n = a * 72057594037927936 + b * 281474976710656 + c * 1099511627776 + d * 4294967296 + e * 16777216 + f * 65536 + g * 256 + k in
    let pa : n / 72057594037927936 % 256 ≡ a = omega arith in
    let pb : n / 281474976710656 % 256 ≡ b = omega arith in
    let pc : n / 1099511627776 % 256 ≡ c = omega arith in
    let pd : n / 4294967296 % 256 ≡ d = omega arith in
    let pe : n / 16777216 % 256 ≡ e = omega arith in
    let pf : n / 65536 % 256 ≡ f = omega arith in
    let pg : n / 256 % 256 ≡ g = omega arith in
    let pk : n % 256 ≡ k = omega arith in
    λ i. pa i ∷ pb i ∷ pc i ∷ pd i ∷ pe i ∷ pf i ∷ pg i ∷ pk i ∷ []

pub eight : (xs : List ℕ) → length xs ≡ 8 → Bytes xs → be8 (be64 xs 0) ≡ xs
eight xs l h =
    let a = take_first 7 xs l in
    let b = take_first 6 a.1 a.3 in
    let c = take_first 5 b.1 b.3 in
    let d = take_first 4 c.1 c.3 in
    let e = take_first 3 d.1 d.3 in
    let f = take_first 2 e.1 e.3 in
    let g = take_first 1 f.1 f.3 in
    let k = take_first 0 g.1 g.3 in
    let z : k.1 ≡ [] = none k.1 k.3 in
    let is : xs ≡ a.0 ∷ b.0 ∷ c.0 ∷ d.0 ∷ e.0 ∷ f.0 ∷ g.0 ∷ k.0 ∷ [] = cc in
    subst (λ (l : List ℕ). Bytes l → be8 (be64 l 0) ≡ l) (sym is) (eight_bytes a.0 b.0 c.0 d.0 e.0 f.0 g.0 k.0) h
  where
    none : (ys : List ℕ) → length ys ≡ 0 → ys ≡ []
    none [] m = refl
    none (y ∷ ys) m = absurd (omega arith)

pub number_back : (xs : List ℕ) (n : ℕ) (ys : List ℕ) → Bytes xs → number_at xs ≡ Some (n, ys) → xs ≡ be8 n ++ ys
number_back xs n ys h e =
    let r = then_some (part_at 8 xs) (λ r. Some (be64 r.0 0, r.1)) (n, ys) e in
    let p = part_back 8 xs r.0.0 r.0.1 r.1 in
    let s = some_parts (be64 r.0.0 0) n r.0.1 ys r.2 in
    let small = front r.0.0 r.0.1 (subst Bytes p.0 h) in
    p.0 ∙ (λ i. sym (eight r.0.0 p.1 small) i ++ s.1 i) ∙ ap (λ (k : ℕ). be8 k ++ ys) s.0

length_back : (xs : List ℕ) (n : ℕ) (ys : List ℕ) → Bytes xs → length_at xs ≡ Some (n, ys) → xs ≡ be4 n ++ ys
length_back xs n ys h e =
    let r = then_some (part_at 4 xs) (λ r. Some (be32 r.0 0, r.1)) (n, ys) e in
    let p = part_back 4 xs r.0.0 r.0.1 r.1 in
    let s = some_parts (be32 r.0.0 0) n r.0.1 ys r.2 in
    let small = front r.0.0 r.0.1 (subst Bytes p.0 h) in
    p.0 ∙ (λ i. sym (four r.0.0 p.1 small) i ++ s.1 i) ∙ ap (λ (k : ℕ). be4 k ++ ys) s.0

value_back : (xs v ys : List ℕ) → Bytes xs → value_at xs ≡ Some (v, ys) → xs ≡ value_written v ++ ys
value_back xs v ys h e =
    let r = then_some (length_at xs) (λ n. part_at n.0 n.1) (v, ys) e in
    let n = length_back xs r.0.0 r.0.1 h r.1 in
    let p = part_back r.0.0 r.0.1 v ys r.2 in
    n ∙ (λ i. be4 (sym p.1 i) ++ p.0 i) ∙ sym (append_assoc (be4 (length v)) v ys)

path_back : (xs : List ℕ) (p : Path) (ys : List ℕ) → path_at xs ≡ Some (p, ys) → xs ≡ path_written p ++ ys
path_back xs p ys e =
    let r = then_some (byte_at xs) (λ k. names_at k.0 k.1) (p, ys) e in
    let n = names_back r.0.0 r.0.1 p ys r.2 in
    byte_back xs r.0.0 r.0.1 r.1 ∙ (λ i. sym n.1 i ∷ n.0 i)

-- a test by which a reader went on
pub cond_some : {A : Type 0} (b : Bool) (x y : Option A) (z : A) → cond b x y ≡ Some z → ((b ≡ true) × (x ≡ Some z)) ⊎ ((b ≡ false) × (y ≡ Some z))
cond_some true x y z e = inl (refl, e)
cond_some false x y z e = inr (refl, e)

pub nothing : {A B : Type 0} (z : A) → None ≡ Some z → B
nothing z e = absurd (let u : ◌≡◌ {A = ℕ} 0 1 = cc in omega arith)

pub flag_back : (xs : List ℕ) (b : Bool) (ys : List ℕ) → flag_at xs ≡ Some (b, ys) → xs ≡ flag_written b ∷ ys
flag_back xs b ys e =
    let r = then_some (byte_at xs) (λ k. flag_by k.0 k.1) (b, ys) e in
    let start = byte_back xs r.0.0 r.0.1 r.1 in
    ⊎_elim
    (λ t. let s = some_parts false b r.0.1 ys t.1 in start ∙ (λ i. eqb-true r.0.0 0 t.0 i ∷ s.1 i) ∙ ap (λ (c : Bool). flag_written c ∷ ys) s.0)
    (λ f. ⊎_elim
    (λ t. let s = some_parts true b r.0.1 ys t.1 in start ∙ (λ i. eqb-true r.0.0 1 t.0 i ∷ s.1 i) ∙ ap (λ (c : Bool). flag_written c ∷ ys) s.0)
    (λ g. nothing (b, ys) g.1)
    (cond_some (eqb r.0.0 1) _ _ (b, ys) f.1))
    (cond_some (eqb r.0.0 0) _ _ (b, ys) r.2)

expect_back : (xs : List ℕ) (x : Expect) (ys : List ℕ) → Bytes xs → expect_at xs ≡ Some (x, ys) → xs ≡ expect_written x ++ ys
expect_back xs x ys h e =
    let r = then_some (byte_at xs) (λ k. expect_by k.0 k.1) (x, ys) e in
    let start = byte_back xs r.0.0 r.0.1 r.1 in
    let small : Bytes r.0.1 = (subst Bytes start h).1 in
    ⊎_elim
    (λ t. let s = some_parts Any x r.0.1 ys t.1 in start ∙ (λ i. eqb-true r.0.0 0 t.0 i ∷ s.1 i) ∙ ap (λ (c : Expect). expect_written c ++ ys) s.0)
    (λ f. ⊎_elim
    (λ t.
    let n = then_some (number_at r.0.1) (λ q. Some (Version q.0, q.1)) (x, ys) t.1 in
    let s = some_parts (Version n.0.0) x n.0.1 ys n.2 in
    start ∙ (λ i. eqb-true r.0.0 1 t.0 i ∷ number_back r.0.1 n.0.0 n.0.1 small n.1 i) ∙ (λ i. expect_written (s.0 i) ++ s.1 i))
    (λ g. nothing (x, ys) g.1)
    (cond_some (eqb r.0.0 1) _ _ (x, ys) f.1))
    (cond_some (eqb r.0.0 0) _ _ (x, ys) r.2)

make_back : (xs : List ℕ) (a : Act) (ys : List ℕ) → Bytes xs → make_at xs ≡ Some (a, ys) → 1 ∷ xs ≡ act_written a ++ ys
unfolding act_written
make_back xs a ys h e =
    let p = then_some (path_at xs) (λ p. and_then (value_at p.1) (λ v. and_then (flag_at v.1) (λ n. and_then (number_at n.1) (λ o. Some (Make p.0 v.0 n.0 o.0, o.1))))) (a, ys) e in
    let path = path_back xs p.0.0 p.0.1 p.1 in
    let h1 = behind (path_written p.0.0) p.0.1 (subst Bytes path h) in
    let v = then_some (value_at p.0.1) (λ v. and_then (flag_at v.1) (λ n. and_then (number_at n.1) (λ o. Some (Make p.0.0 v.0 n.0 o.0, o.1)))) (a, ys) p.2 in
    let value = value_back p.0.1 v.0.0 v.0.1 h1 v.1 in
    let h2 = behind (value_written v.0.0) v.0.1 (subst Bytes value h1) in
    let n = then_some (flag_at v.0.1) (λ n. and_then (number_at n.1) (λ o. Some (Make p.0.0 v.0.0 n.0 o.0, o.1))) (a, ys) v.2 in
    let flag = flag_back v.0.1 n.0.0 n.0.1 n.1 in
    let o = then_some (number_at n.0.1) (λ o. Some (Make p.0.0 v.0.0 n.0.0 o.0, o.1)) (a, ys) n.2 in
    let owner = number_back n.0.1 o.0.0 o.0.1 (subst Bytes flag h2).1 o.1 in
    let s = some_parts (Make p.0.0 v.0.0 n.0.0 o.0.0) a o.0.1 ys o.2 in
    ap (λ (l : List ℕ). 1 ∷ l)
    (path ∙ ap (λ (l : List ℕ). path_written p.0.0 ++ l) (value ∙ ap (λ (l : List ℕ). value_written v.0.0 ++ l) (flag ∙ ap (λ (l : List ℕ). flag_written n.0.0 ∷ l) owner)) ∙
    sym (regroup (path_written p.0.0) (value_written v.0.0) (flag_written n.0.0 ∷ be8 o.0.0) o.0.1)) ∙
    (λ i. act_written (s.0 i) ++ s.1 i)

put_back : (xs : List ℕ) (a : Act) (ys : List ℕ) → Bytes xs → put_at xs ≡ Some (a, ys) → 2 ∷ xs ≡ act_written a ++ ys
unfolding act_written
put_back xs a ys h e =
    let p = then_some (path_at xs) (λ p. and_then (value_at p.1) (λ v. and_then (expect_at v.1) (λ x. Some (Put p.0 v.0 x.0, x.1)))) (a, ys) e in
    let path = path_back xs p.0.0 p.0.1 p.1 in
    let h1 = behind (path_written p.0.0) p.0.1 (subst Bytes path h) in
    let v = then_some (value_at p.0.1) (λ v. and_then (expect_at v.1) (λ x. Some (Put p.0.0 v.0 x.0, x.1))) (a, ys) p.2 in
    let value = value_back p.0.1 v.0.0 v.0.1 h1 v.1 in
    let x = then_some (expect_at v.0.1) (λ x. Some (Put p.0.0 v.0.0 x.0, x.1)) (a, ys) v.2 in
    let expect = expect_back v.0.1 x.0.0 x.0.1 (behind (value_written v.0.0) v.0.1 (subst Bytes value h1)) x.1 in
    let s = some_parts (Put p.0.0 v.0.0 x.0.0) a x.0.1 ys x.2 in
    ap (λ (l : List ℕ). 2 ∷ l)
    (path ∙ ap (λ (l : List ℕ). path_written p.0.0 ++ l) (value ∙ ap (λ (l : List ℕ). value_written v.0.0 ++ l) expect) ∙
    sym (regroup (path_written p.0.0) (value_written v.0.0) (expect_written x.0.0) x.0.1)) ∙
    (λ i. act_written (s.0 i) ++ s.1 i)

-- an act that is a path and what is expected: dropping and checking
module _ (k : ℕ) (act : Path → Expect → Act) (written : (p : Path) (x : Expect) → act_written (act p x) ≡ k ∷ (path_written p ++ expect_written x)) where
  expecting_back : (xs : List ℕ) (a : Act) (ys : List ℕ) → Bytes xs → expecting_at act xs ≡ Some (a, ys) → k ∷ xs ≡ act_written a ++ ys
  expecting_back xs a ys h e =
      let p = then_some (path_at xs) (λ p. and_then (expect_at p.1) (λ x. Some (act p.0 x.0, x.1))) (a, ys) e in
      let path = path_back xs p.0.0 p.0.1 p.1 in
      let x = then_some (expect_at p.0.1) (λ x. Some (act p.0.0 x.0, x.1)) (a, ys) p.2 in
      let expect = expect_back p.0.1 x.0.0 x.0.1 (behind (path_written p.0.0) p.0.1 (subst Bytes path h)) x.1 in
      let s = some_parts (act p.0.0 x.0.0) a x.0.1 ys x.2 in
      ap (λ (l : List ℕ). k ∷ l) (path ∙ ap (λ (l : List ℕ). path_written p.0.0 ++ l) expect ∙ sym (append_assoc (path_written p.0.0) (expect_written x.0.0) x.0.1)) ∙
      ap (λ (l : List ℕ). l ++ x.0.1) (sym (written p.0.0 x.0.0)) ∙ (λ i. act_written (s.0 i) ++ s.1 i)

drop_back : (xs : List ℕ) (a : Act) (ys : List ℕ) → Bytes xs → drop_act_at xs ≡ Some (a, ys) → 3 ∷ xs ≡ act_written a ++ ys
unfolding act_written
drop_back = expecting_back 3 Drop (λ p x. refl)

check_back : (xs : List ℕ) (a : Act) (ys : List ℕ) → Bytes xs → check_at xs ≡ Some (a, ys) → 4 ∷ xs ≡ act_written a ++ ys
unfolding act_written
check_back = expecting_back 4 Check (λ p x. refl)

-- where a number in front says which reader goes on
by_number : {A : Type 0} (b n : ℕ) (f g : List ℕ → Option A) (xs : List ℕ) (z : A) (P : ℕ → Type 0) → cond (eqb b n) (f xs) (g xs) ≡ Some z → (f xs ≡ Some z → P n) → (g xs ≡ Some z → P b) → P b
by_number b n f g xs z P e yes' no' = ⊎_elim (λ t. subst P (sym (eqb-true b n t.0)) (yes' t.1)) (λ t. no' t.1) (cond_some (eqb b n) (f xs) (g xs) z e)

act_back : (xs : List ℕ) (a : Act) (ys : List ℕ) → Bytes xs → act_at xs ≡ Some (a, ys) → xs ≡ act_written a ++ ys
act_back xs a ys h e =
    let r = then_some (byte_at xs) (λ b. act_by b.0 b.1) (a, ys) e in
    let start = byte_back xs r.0.0 r.0.1 r.1 in
    let small : Bytes r.0.1 = (subst Bytes start h).1 in
    let P : ℕ → Type 0 = λ b. b ∷ r.0.1 ≡ act_written a ++ ys in
    start ∙
    by_number r.0.0 1 make_at (λ bs. cond (eqb r.0.0 2) (put_at bs) (cond (eqb r.0.0 3) (drop_act_at bs) (cond (eqb r.0.0 4) (check_at bs) None))) r.0.1 (a, ys) P r.2 (make_back r.0.1 a ys small)
    (λ e2. by_number r.0.0 2 put_at (λ bs. cond (eqb r.0.0 3) (drop_act_at bs) (cond (eqb r.0.0 4) (check_at bs) None)) r.0.1 (a, ys) P e2 (put_back r.0.1 a ys small)
    (λ e3. by_number r.0.0 3 drop_act_at (λ bs. cond (eqb r.0.0 4) (check_at bs) None) r.0.1 (a, ys) P e3 (drop_back r.0.1 a ys small)
    (λ e4. by_number r.0.0 4 check_at (λ bs. None) r.0.1 (a, ys) P e4 (check_back r.0.1 a ys small) (λ z. nothing (a, ys) z))))

-- a thing that is all of the bytes
pub whole_back : {A : Type 0} (o : Option (A × List ℕ)) (x : A) → and_then o wholly ≡ Some x → o ≡ Some (x, [])
whole_back None x e = nothing x e
whole_back (Some (a, [])) x e = let s : a ≡ x = cc in λ i. Some (s i, [])
whole_back (Some (a, b ∷ bs)) x e = nothing x e

do_back : (xs : List ℕ) (c : Call) → Bytes xs → do_at xs ≡ Some c → encode_call c ≡ 1 ∷ xs
unfolding encode_call
do_back xs c h e =
    let r = then_some (byte_at xs) (λ k. and_then (and_then (acts_at k.0 k.1) wholly) (λ as'. Some (Do as'))) c e in
    let start = byte_back xs r.0.0 r.0.1 r.1 in
    let q = then_some (and_then (acts_at r.0.0 r.0.1) wholly) (λ as'. Some (Do as')) c r.2 in
    let m = many_back act_at act_written Bytes behind (λ zs a bs b z. act_back zs a bs b z) r.0.0 r.0.1 q.0 [] (subst Bytes start h).1 (whole_back (acts_at r.0.0 r.0.1) q.0 q.1) in
    let is : Do q.0 ≡ c = cc in
    ap encode_call (sym is) ∙ (λ i. 1 ∷ m.1 i ∷ sym (m.0 ∙ append-nil (many_written act_written q.0)) i) ∙ ap (λ (l : List ℕ). 1 ∷ l) (sym start)

whole_path_back : (xs : List ℕ) (p : Path) → whole_path xs ≡ Some p → path_written p ≡ xs
whole_path_back xs p e = sym (path_back xs p [] (whole_back (path_at xs) p e) ∙ append-nil (path_written p))

look_back : (xs : List ℕ) (c : Call) → and_then (whole_path xs) (λ p. Some (Look p)) ≡ Some c → encode_call c ≡ 2 ∷ xs
unfolding encode_call
look_back xs c e =
    let r = then_some (whole_path xs) (λ p. Some (Look p)) c e in
    let is : Look r.0 ≡ c = cc in
    ap encode_call (sym is) ∙ ap (λ (l : List ℕ). 2 ∷ l) (whole_path_back xs r.0 r.1)

kids_back : (xs : List ℕ) (c : Call) → and_then (whole_path xs) (λ p. Some (Kids p)) ≡ Some c → encode_call c ≡ 3 ∷ xs
unfolding encode_call
kids_back xs c e =
    let r = then_some (whole_path xs) (λ p. Some (Kids p)) c e in
    let is : Kids r.0 ≡ c = cc in
    ap encode_call (sym is) ∙ ap (λ (l : List ℕ). 3 ∷ l) (whole_path_back xs r.0 r.1)

open_back : (xs : List ℕ) (c : Call) → wholly (Open, xs) ≡ Some c → encode_call c ≡ 4 ∷ xs
unfolding encode_call
open_back [] c e = let is : Open ≡ c = cc in ap encode_call (sym is)
open_back (x ∷ xs) c e = nothing c e

end_back : (xs : List ℕ) (c : Call) → Bytes xs → end_at xs ≡ Some c → encode_call c ≡ 5 ∷ xs
unfolding encode_call
end_back xs c h e =
    let r = then_some (and_then (number_at xs) wholly) (λ k. Some (End k)) c e in
    let n = number_back xs r.0 [] h (whole_back (number_at xs) r.0 r.1) in
    let is : End r.0 ≡ c = cc in
    ap encode_call (sym is) ∙ ap (λ (l : List ℕ). 5 ∷ l) (sym (n ∙ append-nil (be8 r.0)))

pub calls_back : CallsAreWrittenAgain
calls_back xs c h e =
    let r = then_some (byte_at xs) (λ b. call_by b.0 b.1) c e in
    let b = r.0.0 in
    let bs = r.0.1 in
    let start = byte_back xs r.0.0 r.0.1 r.1 in
    let small : Bytes bs = (subst Bytes start h).1 in
    let P : ℕ → Type 0 = λ n. encode_call c ≡ n ∷ bs in
    by_number b 1 do_at (λ ls. cond (eqb b 2) (and_then (whole_path ls) (λ p. Some (Look p))) (cond (eqb b 3) (and_then (whole_path ls) (λ p. Some (Kids p))) (cond (eqb b 4) (wholly (Open, ls)) (cond (eqb b 5) (end_at ls) None)))) bs c P r.2 (do_back bs c small)
    (λ e2. by_number b 2 (λ ls. and_then (whole_path ls) (λ p. Some (Look p))) (λ ls. cond (eqb b 3) (and_then (whole_path ls) (λ p. Some (Kids p))) (cond (eqb b 4) (wholly (Open, ls)) (cond (eqb b 5) (end_at ls) None))) bs c P e2 (look_back bs c)
    (λ e3. by_number b 3 (λ ls. and_then (whole_path ls) (λ p. Some (Kids p))) (λ ls. cond (eqb b 4) (wholly (Open, ls)) (cond (eqb b 5) (end_at ls) None)) bs c P e3 (kids_back bs c)
    (λ e4. by_number b 4 (λ ls. wholly (Open, ls)) (λ ls. cond (eqb b 5) (end_at ls) None) bs c P e4 (open_back bs c)
    (λ e5. by_number b 5 end_at (λ ls. None) bs c P e5 (end_back bs c small) (λ z. nothing c z))))) ∙ sym start

-- ANSWERS
refused_back : (xs : List ℕ) (r : Reply) → refused_at xs ≡ Some r → encode_reply r ≡ 0 ∷ xs
unfolding encode_reply
refused_back xs r e =
    let a = then_some (byte_at xs) (λ a. and_then (byte_at a.1) (λ k. wholly (No a.0 k.0, k.1))) r e in
    let k = then_some (byte_at a.0.1) (λ k. wholly (No a.0.0 k.0, k.1)) r a.2 in
    let s = whole_back (Some (No a.0.0 k.0.0, k.0.1)) r k.2 in
    let p = some_parts (No a.0.0 k.0.0) r k.0.1 [] s in
    ap encode_reply (sym p.0) ∙ ap (λ (l : List ℕ). 0 ∷ l) (sym (byte_back xs a.0.0 a.0.1 a.1 ∙ ap (λ (l : List ℕ). a.0.0 ∷ l) (byte_back a.0.1 k.0.0 k.0.1 k.1 ∙ ap (λ (l : List ℕ). k.0.0 ∷ l) p.1)))

done_back : (xs : List ℕ) (r : Reply) → done_at xs ≡ Some r → encode_reply r ≡ 1 ∷ xs
unfolding encode_reply
done_back xs r e =
    let k = then_some (byte_at xs) (λ k. and_then (and_then (many_at path_at k.0 k.1) wholly) (λ ps. Some (Done ps))) r e in
    let q = then_some (and_then (many_at path_at k.0.0 k.0.1) wholly) (λ ps. Some (Done ps)) r k.2 in
    let m = many_back path_at path_written (λ zs. Unit {0}) (λ as' bs u. u) (λ zs p bs u z. path_back zs p bs z) k.0.0 k.0.1 q.0 [] tt (whole_back (many_at path_at k.0.0 k.0.1) q.0 q.1) in
    let is : Done q.0 ≡ r = cc in
    ap encode_reply (sym is) ∙ (λ i. 1 ∷ m.1 i ∷ sym (m.0 ∙ append-nil (many_written path_written q.0)) i) ∙ ap (λ (l : List ℕ). 1 ∷ l) (sym (byte_back xs k.0.0 k.0.1 k.1))

names_in_back : (xs : List ℕ) (r : Reply) → Bytes xs → names_in xs ≡ Some r → encode_reply r ≡ 3 ∷ xs
unfolding encode_reply
names_in_back xs r h e =
    let k = then_some (length_at xs) (λ k. and_then (and_then (names_at k.0 k.1) wholly) (λ ns. Some (Names ns))) r e in
    let q = then_some (and_then (names_at k.0.0 k.0.1) wholly) (λ ns. Some (Names ns)) r k.2 in
    let m = names_back k.0.0 k.0.1 q.0 [] (whole_back (names_at k.0.0 k.0.1) q.0 q.1) in
    let is : Names q.0 ≡ r = cc in
    ap encode_reply (sym is) ∙ (λ i. 3 ∷ (be4 (m.1 i) ++ sym (m.0 ∙ append-nil (path_bytes q.0)) i)) ∙ ap (λ (l : List ℕ). 3 ∷ l) (sym (length_back xs k.0.0 k.0.1 h k.1))

session_back : (xs : List ℕ) (r : Reply) → Bytes xs → session_at xs ≡ Some r → encode_reply r ≡ 4 ∷ xs
unfolding encode_reply
session_back xs r h e =
    let q = then_some (and_then (number_at xs) wholly) (λ k. Some (Session k)) r e in
    let n = number_back xs q.0 [] h (whole_back (number_at xs) q.0 q.1) in
    let is : Session q.0 ≡ r = cc in
    ap encode_reply (sym is) ∙ ap (λ (l : List ℕ). 4 ∷ l) (sym (n ∙ append-nil (be8 q.0)))

-- a number, and more behind it
then_number : {A : Type 0} (xs : List ℕ) (g : ℕ × List ℕ → Option A) (z : A) → Bytes xs → and_then (number_at xs) g ≡ Some z → (n : ℕ) × (ys : List ℕ) × Bytes ys × (xs ≡ be8 n ++ ys) × (g (n, ys) ≡ Some z)
then_number xs g z h e =
    let q = then_some (number_at xs) g z e in
    let n = number_back xs q.0.0 q.0.1 h q.1 in
    (q.0.0, q.0.1, behind (be8 q.0.0) q.0.1 (subst Bytes n h), n, q.2)

-- an entry, by what has been read of it so far: its value; and its numbers from the last to the first
owner_back : (v : List ℕ) (n m c k : ℕ) (xs : List ℕ) (r : Reply) → Bytes xs → owner_at v n m c k xs ≡ Some r → encode_reply r ≡ 2 ∷ (value_written v ++ (be8 n ++ (be8 m ++ (be8 c ++ (be8 k ++ xs)))))
unfolding encode_reply
owner_back v n m c k xs r h e =
    let o = then_number xs (λ o. wholly (Entry' v n m c k o.0, o.1)) r h e in
    let s = some_parts (Entry' v n m c k o.0) r o.1 [] (whole_back (Some (Entry' v n m c k o.0, o.1)) r o.4) in
    ap encode_reply (sym s.0) ∙ ap (λ (l : List ℕ). 2 ∷ (value_written v ++ (be8 n ++ (be8 m ++ (be8 c ++ (be8 k ++ l)))))) (sym (o.3 ∙ ap (λ (l : List ℕ). be8 o.0 ++ l) s.1 ∙ append-nil (be8 o.0)))

kids_at_back : (v : List ℕ) (n m c : ℕ) (xs : List ℕ) (r : Reply) → Bytes xs → kids_at v n m c xs ≡ Some r → encode_reply r ≡ 2 ∷ (value_written v ++ (be8 n ++ (be8 m ++ (be8 c ++ xs))))
kids_at_back v n m c xs r h e =
    let k = then_number xs (λ k. owner_at v n m c k.0 k.1) r h e in
    owner_back v n m c k.0 k.1 r k.2 k.4 ∙ ap (λ (l : List ℕ). 2 ∷ (value_written v ++ (be8 n ++ (be8 m ++ (be8 c ++ l))))) (sym k.3)

changed_back : (v : List ℕ) (n m : ℕ) (xs : List ℕ) (r : Reply) → Bytes xs → changed_at v n m xs ≡ Some r → encode_reply r ≡ 2 ∷ (value_written v ++ (be8 n ++ (be8 m ++ xs)))
changed_back v n m xs r h e =
    let c = then_number xs (λ c. kids_at v n m c.0 c.1) r h e in
    kids_at_back v n m c.0 c.1 r c.2 c.4 ∙ ap (λ (l : List ℕ). 2 ∷ (value_written v ++ (be8 n ++ (be8 m ++ l)))) (sym c.3)

made_back : (v : List ℕ) (n : ℕ) (xs : List ℕ) (r : Reply) → Bytes xs → made_at v n xs ≡ Some r → encode_reply r ≡ 2 ∷ (value_written v ++ (be8 n ++ xs))
made_back v n xs r h e =
    let m = then_number xs (λ m. changed_at v n m.0 m.1) r h e in
    changed_back v n m.0 m.1 r m.2 m.4 ∙ ap (λ (l : List ℕ). 2 ∷ (value_written v ++ (be8 n ++ l))) (sym m.3)

version_back : (v xs : List ℕ) (r : Reply) → Bytes xs → version_at v xs ≡ Some r → encode_reply r ≡ 2 ∷ (value_written v ++ xs)
version_back v xs r h e =
    let n = then_number xs (λ n. made_at v n.0 n.1) r h e in
    made_back v n.0 n.1 r n.2 n.4 ∙ ap (λ (l : List ℕ). 2 ∷ (value_written v ++ l)) (sym n.3)

entry_back : (xs : List ℕ) (r : Reply) → Bytes xs → entry_at xs ≡ Some r → encode_reply r ≡ 2 ∷ xs
entry_back xs r h e =
    let v = then_some (value_at xs) (λ v. version_at v.0 v.1) r e in
    let value = value_back xs v.0.0 v.0.1 h v.1 in
    version_back v.0.0 v.0.1 r (behind (value_written v.0.0) v.0.1 (subst Bytes value h)) v.2 ∙ ap (λ (l : List ℕ). 2 ∷ l) (sym value)

pub replies_back : RepliesAreWrittenAgain
replies_back xs r h e =
    let q = then_some (byte_at xs) (λ b. reply_by b.0 b.1) r e in
    let b = q.0.0 in
    let bs = q.0.1 in
    let start = byte_back xs q.0.0 q.0.1 q.1 in
    let small : Bytes bs = (subst Bytes start h).1 in
    let P : ℕ → Type 0 = λ n. encode_reply r ≡ n ∷ bs in
    by_number b 0 refused_at (λ ls. cond (eqb b 1) (done_at ls) (cond (eqb b 2) (entry_at ls) (cond (eqb b 3) (names_in ls) (cond (eqb b 4) (session_at ls) None)))) bs r P q.2 (refused_back bs r)
    (λ e1. by_number b 1 done_at (λ ls. cond (eqb b 2) (entry_at ls) (cond (eqb b 3) (names_in ls) (cond (eqb b 4) (session_at ls) None))) bs r P e1 (done_back bs r)
    (λ e2. by_number b 2 entry_at (λ ls. cond (eqb b 3) (names_in ls) (cond (eqb b 4) (session_at ls) None)) bs r P e2 (entry_back bs r small)
    (λ e3. by_number b 3 names_in (λ ls. cond (eqb b 4) (session_at ls) None) bs r P e3 (names_in_back bs r small)
    (λ e4. by_number b 4 session_at (λ ls. None) bs r P e4 (session_back bs r small) (λ z. nothing r z))))) ∙ sym start
