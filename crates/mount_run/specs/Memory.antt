-- Sources and sinks in memory.
use Rattle.std.specs.Prelude.{ℕ, ◌==◌, Bool, List}
use Rattle.std.specs.List.{list_any}
use Rattle.answer_model.specs.Count.{next_count}

-- What a source in memory has left, the numbers of the calls that fail, how many calls were made, and how many of them failed.
pub record MemInput : Type 0 where
  pub left : List ℕ
  pub fails : List ℕ
  pub calls : ℕ
  pub faults : ℕ

-- What a sink in memory holds, and the same of its calls.
pub record MemOutput : Type 0 where
  pub written : List ℕ
  pub fails : List ℕ
  pub calls : ℕ
  pub faults : ℕ

-- whether the next call, counted from 1, is one of those that fail
abbrev pub call_fails : List ℕ → ℕ → Bool
call_fails fails calls = list_any (λ n. n == next_count calls) fails
