-- A tree that is written is read again as that tree: its prelude has the numbers, and each cell behind it is that of its entry. Assumes nothing.
use Rattle.std.proofs.Common.{◌≡◌, ℕ, ◌+◌, ◌*◌, ◌<◌, ◌≤◌, true, cond, not, ◌&&◌, ltb, leb, List, [], ◌∷◌, ◌++◌, map, length, get_or, take, Some, None, Option, sym, refl, ap, ◌∙◌, subst, append_assoc, append-nil, arith, length-append}
use Rattle.std.specs.List.{AllByRecursion}
use Rattle.std.proofs.ByRecursion.{All-weaker}
use Rattle.std.proofs.lemmas.List.{get_or-append-add, get_or_append_left, take-append-le, take_all, map_push}
use Rattle.std.proofs.lemmas.Bool.{and_parts, ltb-true, leb-true}
use Rattle.model.specs.Tree.{Path, Entry, State, every, none, name_ok, path_ok}
use Rattle.lent_bytes.specs.Numbers.{be32, be64, be4, be8}
use Rattle.lent_bytes.specs.Paths.{path_bytes}
use Rattle.lent_bytes.proofs.Rounds.{round4, round8, read_be8, length_be8}
use Rattle.lent_bytes.proofs.Places.{be64_same}
use Rattle.lent_bytes.proofs.PathBytes.{path_round, spells_is}
use Rattle.calls.specs.Format.{many_written}
use Rattle.cells.specs.Layout.{begins_at, cut, entry_of, entries_of, prelude_of, state_from, state_of, numbers_at, sessions_in, Holds, Formed, FitHead}
use Rattle.cells.specs.Fits.{rising, CountsTo, Fits}
use Rattle.cells.proofs.Made.{entry_made, good_made}
use Rattle.cells.proofs.Pushes.{cut_push, holds_push, holds_none}
use Rattle.scan.specs.Scans.{meaning}
use Rattle.scan.proofs.Uniques.{holds_unique, is_tree_lem}
use Rattle.content.proofs.Decided.{tree_decided}
use Rattle.wire.specs.Trees.{entry_head, entry_bytes, prelude_bytes, tree_bytes, TidyEntry}
use Rattle.wire.specs.Laws.{TreeAgain}

-- SESSIONS
pub length_numbers_written : (xs : List ℕ) → length (many_written be8 xs) ≡ 8 * length xs
unfolding many_written
length_numbers_written [] = refl
length_numbers_written (x ∷ xs) = omega (arith, length-append (be8 x) (many_written be8 xs), length_be8 x, length_numbers_written xs)

numbers_written : (p xs : List ℕ) (i : ℕ) → i ≡ length p → AllByRecursion (λ x. x < 18446744073709551616) xs → numbers_at (length xs) (p ++ many_written be8 xs) i ≡ xs
unfolding numbers_at many_written
numbers_written p [] i e h = refl
numbers_written p (x ∷ xs) i e h =
    let ws = many_written be8 xs in
    let one = be64_same (p ++ (be8 x ++ ws)) (be8 x ++ ws) i 0 (λ k l. ap (λ (n : ℕ). get_or (p ++ (be8 x ++ ws)) (n + k) 0) e ∙ get_or-append-add p (be8 x ++ ws) k 0 ∙ ap (λ (n : ℕ). get_or (be8 x ++ ws) n 0) (omega arith)) ∙ read_be8 x ws h.0 in
    let more = ap (λ (l : List ℕ). numbers_at (length xs) l (i + 8)) (sym (append_assoc p (be8 x) ws)) ∙ numbers_written (p ++ be8 x) xs (i + 8) (omega (arith, length-append p (be8 x), length_be8 x)) h.1 in
    λ j. one j ∷ more j

rising_below : (low : ℕ) (xs : List ℕ) (last : ℕ) → rising low xs last ≡ true → (low ≤ last) × AllByRecursion (λ x. x ≤ last) xs
unfolding rising
rising_below low [] last h = (leb-true low last h, tt)
rising_below low (x ∷ xs) last h =
    let both = and_parts (ltb low x) (rising x xs last) h in
    let more = rising_below x xs last both.1 in
    (omega (arith, ltb-true low x both.0, more.0), (more.0, more.1))

-- THE PRELUDE
module _ (room : ℕ) (s : State) (f : Fits room s) where
  pub sessions_small : AllByRecursion (λ x. x < 18446744073709551616) s.sessions
  sessions_small = All-weaker (λ x. x ≤ s.last_session) (λ x. x < 18446744073709551616) (λ x l. omega (arith, f.opened, f.early)) s.sessions (rising_below 0 s.sessions s.last_session f.rises).1

  -- the numbers in front of the sessions
  fixed : List ℕ
  fixed = be8 s.changes ++ (be8 s.top ++ (be8 s.last_session ++ be4 (length s.sessions)))

  length_fixed : length fixed ≡ 28
  unfolding fixed be8 be4
  length_fixed = refl

  prelude_split : prelude_bytes s ≡ fixed ++ many_written be8 s.sessions
  unfolding fixed prelude_bytes be8 be4
  prelude_split = refl

  count_read : be32 (prelude_bytes s) 24 ≡ length s.sessions
  unfolding prelude_bytes be8 be4 be32
  count_read = round4 (length s.sessions) (omega (arith, f.few))

  pub prelude_long : length (prelude_bytes s) ≡ begins_at (prelude_bytes s)
  prelude_long = omega (arith, ap length prelude_split, length-append fixed (many_written be8 s.sessions), length_fixed, length_numbers_written s.sessions, count_read)

  sessions_read : sessions_in (prelude_bytes s) ≡ s.sessions
  sessions_read =
      ap (λ (n : ℕ). numbers_at n (prelude_bytes s) 28) count_read ∙ ap (λ (l : List ℕ). numbers_at (length s.sessions) l 28) prelude_split ∙
      numbers_written fixed s.sessions 28 (sym length_fixed) sessions_small

  changes_read : be64 (prelude_bytes s) 0 ≡ s.changes
  unfolding prelude_bytes be8 be64
  changes_read = round8 s.changes (omega (arith, f.early))

  top_read : be64 (prelude_bytes s) 8 ≡ s.top
  unfolding prelude_bytes be8 be64
  top_read = round8 s.top (omega (arith, f.early, f.counts.top))

  last_read : be64 (prelude_bytes s) 16 ≡ s.last_session
  unfolding prelude_bytes be8 be64
  last_read = round8 s.last_session (omega (arith, f.early, f.opened))

  pub prelude_read : state_from (prelude_bytes s) s.entries ≡ s
  prelude_read = λ i. record { changes = changes_read i; top = top_read i; entries = s.entries; sessions = sessions_read i; last_session = last_read i }

-- CELLS
path_long : (p : Path) → every name_ok p ≡ true → length (path_bytes p) ≤ 65 * length p
unfolding every path_bytes
path_long [] h = omega arith
path_long (n ∷ ns) h =
    let both = and_parts (name_ok n) (every name_ok ns) h in
    let fine = and_parts (ltb 0 (length n) && leb (length n) 64) (every (λ (b : ℕ). ltb b 256) n) both.0 in
    let size = and_parts (ltb 0 (length n)) (leb (length n) 64) fine.0 in
    omega (arith, length-append n (path_bytes ns), leb-true (length n) 64 size.1, path_long ns both.1)

-- an entry whose numbers have bytes
pub record Written (e : Entry) : Type 0 where
  pub tidy : TidyEntry e
  pub version : e.version < 18446744073709551616
  pub kids : e.kids < 18446744073709551616

module _ (e : Entry) (w : Written e) where
  head_fits : FitHead (entry_head e)
  head_fits =
      let ok = and_parts (not (none e.path) && leb (length e.path) 16) (every name_ok e.path) w.tidy.named in
      let few = leb-true (length e.path) 16 (and_parts (not (none e.path)) (leb (length e.path) 16) ok.0).1 in
      let t = w.tidy in
      record {
        value = omega (arith, t.short);
        path = omega (arith, path_long e.path ok.1);
        version = omega (arith, w.version);
        made = omega (arith, t.made);
        changed = omega (arith, t.changed, t.made);
        kids = omega (arith, w.kids);
        owner = omega (arith, t.owner);
      }

  cell_formed : Formed (entry_bytes e)
  cell_formed =
      good_made (entry_head e) (path_bytes e.path) e.value head_fits refl refl (omega (arith, w.tidy.short)) (spells_is (path_bytes e.path) e.path refl)
      (ap path_ok (path_round e.path) ∙ w.tidy.named)

  cell_read : entry_of (entry_bytes e) ≡ e
  cell_read =
      entry_made (entry_head e) (path_bytes e.path) e.value head_fits refl ∙
      (λ i. record { path = path_round e.path i; value = e.value; version = e.version; made = e.made; changed = e.changed; kids = e.kids; owner = e.owner })

-- memory that holds a prelude and entries
pub record Laid (pre : List ℕ) (es : List Entry) (mem : List ℕ) : Type 0 where
  pub places : List ℕ
  pub holds : Holds mem places
  pub prelude : prelude_of mem places ≡ pre
  pub entries : entries_of mem places ≡ es

laid_none : (pre : List ℕ) → length pre ≡ begins_at pre → Laid pre [] pre
unfolding cut
laid_none pre b = record { places = length pre ∷ []; holds = holds_none pre b; prelude = take_all (length pre) pre (omega arith); entries = refl }

laid_more : (pre : List ℕ) (es : List Entry) (mem : List ℕ) (e : Entry) → Laid pre es mem → Written e → Laid pre (es ++ e ∷ []) (mem ++ entry_bytes e)
laid_more pre es mem e l w =
    let ps = l.places in
    let h = l.holds in
    let x = length mem + length (entry_bytes e) in
    record {
      places = ps ++ x ∷ [];
      holds = holds_push mem (entry_bytes e) ps h (cell_formed e w);
      prelude = ap (λ (n : ℕ). take n (mem ++ entry_bytes e)) (get_or_append_left ps (x ∷ []) 0 0 h.some) ∙ take-append-le (get_or ps 0 0) mem (entry_bytes e) (h.within 0 h.some) ∙ l.prelude;
      entries = ap (map entry_of) (cut_push mem (entry_bytes e) ps h.some h.ends h.within) ∙ map_push entry_of (cut mem ps) (entry_bytes e) ∙ (λ i. l.entries i ++ cell_read e w i ∷ []);
    }

laid_all : (pre : List ℕ) (es : List Entry) (mem : List ℕ) (fs : List Entry) → Laid pre es mem → AllByRecursion Written fs → Laid pre (es ++ fs) (mem ++ many_written entry_bytes fs)
unfolding many_written
laid_all pre es mem [] l w = subst (λ (xs : List Entry). Laid pre xs (mem ++ [])) (sym (append-nil es)) (subst (Laid pre es) (sym (append-nil mem)) l)
laid_all pre es mem (e ∷ fs) l w =
    let more = laid_all pre (es ++ e ∷ []) (mem ++ entry_bytes e) fs (laid_more pre es mem e l w.0) w.1 in
    subst (λ (xs : List Entry). Laid pre xs (mem ++ (entry_bytes e ++ many_written entry_bytes fs))) (append_assoc es (e ∷ []) fs)
    (subst (Laid pre ((es ++ e ∷ []) ++ fs)) (append_assoc mem (entry_bytes e) (many_written entry_bytes fs)) more)

-- ENTRIES of a state that can be sent
written_all : (limit : ℕ) → limit < 18446744073709551616 → (es : List Entry) → AllByRecursion TidyEntry es → AllByRecursion (CountsTo limit) es → AllByRecursion Written es
written_all limit l [] t c = tt
written_all limit l (e ∷ es) t c = (record { tidy = t.0; version = omega (arith, c.0.version); kids = omega (arith, c.0.kids) }, written_all limit l es t.1 c.1)

pub tree_again : TreeAgain
unfolding tree_bytes
tree_again room s h =
    let f = h.fits in
    let bytes = tree_bytes s in
    let laid = laid_all (prelude_bytes s) [] (prelude_bytes s) s.entries (laid_none (prelude_bytes s) (prelude_long room s f)) (written_all (64 * s.changes) (omega (arith, f.early)) s.entries h.tidy.entries f.counts.entries) in
    let is : state_of bytes laid.places ≡ s = (λ i. state_from (laid.prelude i) (laid.entries i)) ∙ prelude_read room s f in
    let tree = is_tree_lem room bytes laid.places laid.holds (subst (Fits room) (sym is) f) in
    let means : meaning bytes ≡ s = ap (state_of bytes) (sym (holds_unique bytes laid.places laid.holds)) ∙ is in
    (λ i. cond {A = Option State} ((tree_decided room bytes).1 tree i) (Some (meaning bytes)) None) ∙ ap Some means
