-- Bytes written from the front of a buffer on are the answer that they spell. Assumes nothing.
use Rattle.std.proofs.Common.{◌≡◌, ℕ, ◌+◌, ◌-◌, ◌<◌, ◌≤◌, List, [], ◌∷◌, ◌++◌, length, get_or, take, drop, sym, refl, ap, ◌∙◌, subst, append_assoc, arith, length-append, length-drop}
use Rattle.std.proofs.lemmas.List.{drop_at, take_at, take_all, take-append-drop, length-take-le}
use Rattle.model.specs.Tree.{Path, Reply, Names}
use borrow.Rule.Slice.PartMut.{post_of, put_mid}
use Rattle.lent_bytes.specs.Numbers.{be4}
use Rattle.lent_bytes.proofs.Rounds.{length_be4}
use Rattle.lent_bytes.specs.Writing.{Added}
use Rattle.lent_bytes.specs.Writers.{Wrote}
use Rattle.lent_bytes.specs.declared.writing.Writer.{Writer}
use Rattle.lent_bytes.proofs.PathBytes.{path_is, spells_is}
use Rattle.lent_bytes.specs.Paths.{path_of, path_bytes, Spells}
use Rattle.calls.specs.Format.{encode_reply}
use Rattle.service.specs.Answering.{Says}

pub said : (r : Reply) (was bytes now : List ℕ) (to : ℕ) → Added 0 was bytes to now → length bytes ≤ length was → bytes ≡ encode_reply r → Says r now to
said r was bytes now to a h e = record { inside = omega (arith, a.ends, a.long); bytes = a.front ∙ e }

-- the same of a writer that began with nothing
pub said_in : (r : Reply) (begun : Writer) (bytes : List ℕ) (ended : Writer) → begun.used ≡ 0 → Wrote begun bytes ended → ended.used ≤ length begun.out.now → bytes ≡ encode_reply r → Says r ended.out.now ended.used
said_in r begun bytes ended none w h e = record {
  inside = omega (arith, w.added.long);
  bytes = w.added.front ∙ ap (λ (n : ℕ). take n begun.out.now ++ bytes) none ∙ e;
}

-- COUNTING NAMES: what is left spells what is left of the path
pub record Counted (path left : List ℕ) (count : ℕ) : Type 0 where
  pub spells : Spells left
  pub many : count + length (path_of left) ≡ length (path_of path)

pub count_first : (path : List ℕ) → Spells path → Counted path path 0
count_first path sp = record { spells = sp; many = omega arith }

module _ (path left : List ℕ) (count : ℕ) (c : Counted path left count) where
  pub count_next : (n : ℕ) (rest : List ℕ) → left ≡ n ∷ rest → (n ≤ length rest) × (count < length (path_of path)) × Counted path (drop n rest) (count + 1)
  unfolding path_bytes
  count_next n rest is = go (path_of left) refl
    where
      go : (p : Path) → path_of left ≡ p → (n ≤ length rest) × (count < length (path_of path)) × Counted path (drop n rest) (count + 1)
      go [] e = absurd (let z = ap length (sym c.spells ∙ ap path_bytes e) in omega (arith, ap length is))
      go (m ∷ ms) e =
          let both : length m ∷ (m ++ path_bytes ms) ≡ n ∷ rest = sym (ap path_bytes e) ∙ c.spells ∙ is in
          let k : length m ≡ n = ap (λ (l : List ℕ). get_or l 0 0) both in
          let behind : m ++ path_bytes ms ≡ rest = ap (drop 1) both in
          let left' : drop n rest ≡ path_bytes ms = ap (drop n) (sym behind) ∙ drop_at m (path_bytes ms) n k in
          let names = ap length e in (
            omega (arith, ap length behind, length-append m (path_bytes ms)),
            omega (arith, c.many),
            record { spells = spells_is (drop n rest) ms left'; many = omega (arith, c.many, ap length (path_is (drop n rest) ms left')) },
          )

  pub count_end : left ≡ [] → count ≡ length (path_of path)
  unfolding path_bytes
  count_end is = go (path_of left) refl
    where
      go : (p : Path) → path_of left ≡ p → count ≡ length (path_of path)
      go [] e = omega (arith, c.many, ap length e)
      go (m ∷ ms) e = absurd (let z = ap length (sym (ap path_bytes e) ∙ c.spells ∙ is) in omega arith)

-- what is left as the code cuts it, and where nothing is left
pub rest_counted : (path rest : List ℕ) (n count : ℕ) → Counted path (drop n rest) count → Counted path (take (length rest - n) (drop n rest)) count
rest_counted path rest n count c = subst (λ (l : List ℕ). Counted path l count) (sym (take_all (length rest - n) (drop n rest) (omega (arith, length-drop n rest)))) c

pub none_left : (left : List ℕ) → length left ≡ 0 → left ≡ []
none_left [] e = refl
none_left (n ∷ ns) e = absurd (omega arith)

pub said_to : (r : Reply) (was bytes now : List ℕ) (to : ℕ) → Added 0 was bytes to now → to ≤ length was → bytes ≡ encode_reply r → Says r now to
said_to r was bytes now to a h e = record { inside = omega (arith, a.long); bytes = a.front ∙ e }

-- NAMES, written behind a head of five bytes that is put in front afterwards
pub path_count : (p : Path) → length p ≤ length (path_bytes p)
unfolding path_bytes
path_count [] = omega arith
path_count (n ∷ ns) = omega (arith, path_count ns, length-append n (path_bytes ns))

pub names-said :
    (was names head : List ℕ) (end count : ℕ) → 5 ≤ length was → length names ≡ length was - 5 → end ≤ length names → Spells (take end names) → count ≡ length (path_of (take end names)) → head ≡ 3 ∷ be4 count →
    Says (Names (path_of (take end names))) (head ++ post_of 0 5 (put_mid 5 (length was - 5) was names)) (5 + end)
unfolding encode_reply
names-said was names head end count five long inside sp many is =
    let rest = drop end names ++ drop (length was - 5) (drop 5 was) in
    let behind : post_of 0 5 (put_mid 5 (length was - 5) was names) ≡ names ++ drop (length was - 5) (drop 5 was) =
    drop_at (take 5 was) (names ++ drop (length was - 5) (drop 5 was)) 5 (length-take-le 5 was five) in
    let split : names ++ drop (length was - 5) (drop 5 was) ≡ take end names ++ rest =
    ap (λ (l : List ℕ). l ++ drop (length was - 5) (drop 5 was)) (sym (take-append-drop end names)) ∙ append_assoc (take end names) (drop end names) (drop (length was - 5) (drop 5 was)) in
    let whole : head ++ post_of 0 5 (put_mid 5 (length was - 5) was names) ≡ (head ++ take end names) ++ rest = ap (λ (l : List ℕ). head ++ l) (behind ∙ split) ∙ sym (append_assoc head (take end names) rest) in
    let size : length (head ++ take end names) ≡ 5 + end = omega (arith, length-append head (take end names), ap length is, length_be4 count, length-take-le end names inside) in
    record {
      inside = omega (arith, ap length whole, length-append (head ++ take end names) rest, size);
      bytes = ap (take (5 + end)) whole ∙ take_at (head ++ take end names) rest (5 + end) size ∙ (λ i. is i ++ sym sp i) ∙ ap (λ (n : ℕ). 3 ∷ (be4 n ++ path_bytes (path_of (take end names)))) many;
    }

pub names-told :
    (r : Reply) (was names head n : List ℕ) (end count : ℕ) → 5 ≤ length was → length names ≡ length was - 5 → end ≤ length names → Spells (take end names) → count ≡ length (path_of (take end names)) →
    head ≡ 3 ∷ get_or n 0 0 ∷ get_or n 1 0 ∷ get_or n 2 0 ∷ get_or n 3 0 ∷ [] → n ≡ be4 count → Names (path_of (take end names)) ≡ r → Says r (head ++ post_of 0 5 (put_mid 5 (length was - 5) was names)) (5 + end)
unfolding be4
names-told r was names head n end count five long inside sp many is digits e =
    subst (λ (x : Reply). Says x (head ++ post_of 0 5 (put_mid 5 (length was - 5) was names)) (5 + end)) e
    (names-said was names head end count five long inside sp many (is ∙ (λ i. 3 ∷ get_or (digits i) 0 0 ∷ get_or (digits i) 1 0 ∷ get_or (digits i) 2 0 ∷ get_or (digits i) 3 0 ∷ [])))
