-- A small service: numbers are added up. At it the theorems are stated, which hold for every service.
use Rattle.std.specs.Prelude.{ℕ, ◌+◌, true, cond, Some, None, ◌==◌}
use Rattle.agreement.specs.Content.{Service}

-- 0 only asks for the sum; 1 is no call, and is refused whatever the sum is, by 1; the others are added, and answered by 2 more than the sum. 0 is busy
abbrev pub sums : Service
sums =
    record {
      O = ℕ;
      R = ℕ;
      K = ℕ;
      clerk = record { State = ℕ; start = 0; reply = λ o s. cond (o == 1) 1 (2 + (o + s)); next = λ o s. cond (o == 1) s (o + s); busy = 0 };
      is_read = λ o. (o == 0);
      quick = λ o. cond (o == 1) (Some 1) None;
      keep = λ o s. s;
      say = λ o k. cond (o == 1) 1 (2 + (o + k));
      calm = λ s. true;
    }
