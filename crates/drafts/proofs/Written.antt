-- The state that was written. Assumes nothing.
use Rattle.std.proofs.Common.{◌≡◌, ℕ, ◌<◌, List, ◌++◌, ap, ◌∙◌}
use Rattle.model.specs.Tree.{Entry}
use Rattle.lent_bytes.specs.Numbers.{be64}
use Rattle.cells.specs.declared.draft.Size.{Size}
use Rattle.cells.specs.Layout.{state_from, prelude_with, sessions_in}
use Rattle.cells.specs.Drafts.{Grown, Next, drafting}
use Rattle.cells.proofs.Preludes.{state_with}

pub next_state : {pre out ps : List ℕ} {es : List Entry} {z : Size} → Next pre es out ps z → drafting out ps z ≡ state_from pre es
next_state {pre} {out} {ps} {es} {z} n = λ i. state_from (n.prelude i) (n.entries i)

-- with counts of changes and of those at the top
pub written : {out ps : List ℕ} {es : List Entry} {z : Size} (c t u : ℕ) (pre : List ℕ) → Next (prelude_with c t pre) es out ps z → c < 18446744073709551616 → t < 18446744073709551616 → t ≡ u →
    drafting out ps z ≡ record { changes = c; top = u; entries = es; sessions = sessions_in pre; last_session = be64 pre 16 }
written {out} {ps} {es} {z} c t u pre n lc lt e =
    next_state n ∙ state_with c t pre es lc lt ∙ ap (λ (k : ℕ). record { changes = c; top = k; entries = es; sessions = sessions_in pre; last_session = be64 pre 16 }) e

-- a tree that was written, and entries behind it
pub next_push : {pre out ps out₁ ps₁ : List ℕ} {es fs : List Entry} {z z₁ : Size} {n : ℕ} → Next pre es out ps z → Grown out ps z fs n out₁ ps₁ z₁ → Next pre (es ++ fs) out₁ ps₁ z₁
next_push {pre} {out} {ps} {out₁} {ps₁} {es} {fs} {z} {z₁} {n} x g =
    record { drafts = g.drafts; prelude = g.prelude ∙ x.prelude; entries = g.entries ∙ ap (λ (l : List Entry). l ++ fs) x.entries }
