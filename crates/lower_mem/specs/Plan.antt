-- Calls that are made to fail.
use Rattle.std.specs.Prelude.{ℕ, ◌≡◌, ◌==◌, Bool, true, false, List, [], Result, Ok, Err, if◌then◌else◌}
use Rattle.std.specs.List.{list_any}
use Rattle.answer_model.specs.Count.{next_count}
use Rattle.lower_tree.specs.declared.error.LowerError.{LowerError}
use Rattle.lower_tree.specs.declared.error.LowerError.TheVariants.{Failed, Memory}

-- The numbers of the calls that fail, counted from 1, and how many were made and how many of them failed.
pub record Plan : Type 0 where
  pub fails : List ℕ
  pub calls : ℕ
  pub faults : ℕ

-- before the first call
abbrev pub first_plan : List ℕ → Plan
first_plan fails = record { fails = fails; calls = 0; faults = 0 }

-- whether the next call fails
abbrev pub fails_next : Plan → Bool
fails_next plan = list_any (λ n. n == next_count plan.calls) plan.fails

-- behind the next call
abbrev pub behind_call : Plan → Plan
behind_call plan = record { fails = plan.fails; calls = next_count plan.calls; faults = if fails_next plan then next_count plan.faults else plan.faults }

-- No call fails, and none did.
pub record IsCalm (plan : Plan) : Type 0 where
  pub none : plan.fails ≡ []
  pub calm : plan.faults ≡ 0

-- A call fails if it is one of those, and else it comes to an answer of its own.
abbrev pub FailsBy : {T : Type 0} → Plan → Result T LowerError → Type 0
FailsBy plan (Ok x) = fails_next plan ≡ false
FailsBy plan (Err Memory) = fails_next plan ≡ false
FailsBy plan (Err Failed) = fails_next plan ≡ true

-- what a call that only takes memory comes to
abbrev pub or_memory : {T E : Type 0} → Result T E → Result T LowerError
or_memory (Ok x) = Ok x
or_memory (Err e) = Err Memory
