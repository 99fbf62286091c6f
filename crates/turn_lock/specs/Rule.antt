-- The rule of the lock: what holds of its two words, its slot, and what the holders of seats and notes know, between any two steps.
-- Word 0 counts the tickets that were taken, word 1 the turns that are over. The slot has the state while nobody has the turn.
use Rattle.std.specs.Prelude.{◌≡◌, ◌≢◌, ◌⊎◌, ℕ, ◌+◌, ◌^◌, ◌<◌, ◌≤◌, List, [], ◌∷◌, length, sum_by, All, Option, Some}
use mathlib.Core.Option.{some, none}
use mathlib.Core.List.{IsPrefix}
use lib.ListN.{get_elem?}
use Rattle.atomic_table.specs.Table.{State}
use Rattle.turn_lock.specs.declared.holder.Holder.{Holder}
use Rattle.turn_lock.specs.declared.holder.Phase.{Phase}
use Rattle.turn_lock.specs.declared.holder.Phase.TheVariants.{Gone, Told, Idle, Waiting, InTurn}
use Rattle.turn_lock.specs.Turns.{session_entries}

-- what stands behind the words and the slot
pub record Board (E : Type 0) : Type 0 where
  -- how many tickets were taken, and how many turns are over
  pub tickets : ℕ
  pub served : ℕ
  -- how many seats were made; their sessions are the numbers below it
  pub sessions : ℕ
  -- the entries of the turns that are over
  pub log : List E
  -- which holder took a ticket, and which has a session's seat or gathered it
  pub taker : ℕ → ℕ
  pub sitter : ℕ → ℕ

-- how many tickets a holder has out
abbrev pub tickets_out : {E : Type 0} → Phase E → ℕ
tickets_out Gone = 0
tickets_out Told = 0
tickets_out Idle = 0
tickets_out (Waiting n) = 1
tickets_out (InTurn n found) = 1

-- it has the turn
abbrev pub IsInTurn : {E : Type 0} → Phase E → Type 0
IsInTurn Gone = ⊥
IsInTurn Told = ⊥
IsInTurn Idle = ⊥
IsInTurn (Waiting n) = ⊥
IsInTurn (InTurn n found) = Unit {0}

-- A seat or a note: it knows the opening state, and all that it has seen begins the log
pub record Hears {T E : Type 0} (opening : T) (log : List E) (v : Holder T E) : Type 0 where
  pub opening_is : v.opening ≡ Some opening
  pub seen : IsPrefix v.seen log
  pub aside : All (λ xs. IsPrefix xs log) v.aside

-- The j-th holder gathered the seat of one more session, with the entries of that session in the log
pub record HasGathered {E : Type 0} (session_of : E → ℕ) (log : List E) (sessions : ℕ) (sitter : ℕ → ℕ) (j session : ℕ) (gathered : ℕ × List E) : Type 0 where
  pub other : gathered.0 ≢ session
  pub below : gathered.0 < sessions
  pub sits : sitter gathered.0 ≡ j
  pub entries : session_entries session_of gathered.0 log ≡ gathered.1

-- The j-th holder has a seat
pub record Sits {T E : Type 0} (session_of : E → ℕ) (log : List E) (sessions : ℕ) (sitter : ℕ → ℕ) (j : ℕ) (v : Holder T E) : Type 0 where
  -- it may have a ticket out
  pub part : 0 < v.parts
  -- it alone has its session
  pub below : v.session < sessions
  pub sits : sitter v.session ≡ j
  -- its own entries are those of its session in the log
  pub mine : session_entries session_of v.session log ≡ v.mine
  -- only the holder of session 0 knows how many seats were made
  pub counted : v.sessions ≢ 0 → (v.sessions ≡ sessions) × (sitter 0 ≡ j)
  -- the same of each seat that it gathered
  pub gathered : All (HasGathered session_of log sessions sitter j v.session) v.gathered

-- The j-th holder waits with the ticket n: its turn isn't over, and nobody else has that ticket
pub record HasTicket (tickets served : ℕ) (taker : ℕ → ℕ) (j n : ℕ) : Type 0 where
  pub due : served ≤ n
  pub taken : n < tickets
  pub taker_is : taker n ≡ j

-- The j-th holder has the turn n: it is the next one, the state is out of the slot, and had the log
pub record HasTurn {T E : Type 0} (tickets served : ℕ) (taker : ℕ → ℕ) (log : List E) (homes : List (mathlib.Core.Option.Option (Option T))) (j n : ℕ) (found : List E) : Type 0 where
  pub next : n ≡ served
  pub taken : n < tickets
  pub taker_is : taker n ≡ j
  pub small : n < 2 ^ 62
  pub found_is : found ≡ log
  pub out : homes ≡ none ∷ []

-- what the j-th holder knows, by its phase
abbrev pub Knows : {T E : Type 0} → (E → ℕ) → T → Board E → List (mathlib.Core.Option.Option (Option T)) → ℕ → Holder T E → Phase E → Type 0
Knows session_of opening b homes j v Gone = Unit {0}
Knows session_of opening b homes j v Told = Hears opening b.log v
Knows session_of opening b homes j v Idle = Hears opening b.log v × Sits session_of b.log b.sessions b.sitter j v
Knows session_of opening b homes j v (Waiting n) = Hears opening b.log v × Sits session_of b.log b.sessions b.sitter j v × HasTicket b.tickets b.served b.taker j n
Knows session_of opening b homes j v (InTurn n found) = Hears opening b.log v × Sits session_of b.log b.sessions b.sitter j v × HasTurn b.tickets b.served b.taker b.log homes j n found

-- The slot has a state whose log is this one, and which may come about from the opening state
pub record IsHome {T E : Type 0} (log_of : T → List E) (lawful : T → T → Type 0) (opening : T) (log : List E) (homes : List (mathlib.Core.Option.Option (Option T))) : Type 0 where
  pub state : T
  pub slot : homes ≡ some (Some state) ∷ []
  pub log_is : log_of state ≡ log
  pub lawful_state : lawful opening state

-- The state is out of the slot, with the j-th holder, who has the turn
pub record IsOut {T E : Type 0} (homes : List (mathlib.Core.Option.Option (Option T))) (holders : List (Holder T E)) (j : ℕ) : Type 0 where
  pub slot : homes ≡ none ∷ []
  pub holder : Holder T E
  pub there : get_elem? holders j ≡ some holder
  pub turn : IsInTurn holder.phase

-- The rule
pub record IsTurnLock {T E : Type 0} (log_of : T → List E) (session_of : E → ℕ) (lawful : T → T → Type 0) (opening : T) (s : State (Option T) (Holder T E)) : Type 0 where
  pub board : Board E
  -- the two words are the tickets that were taken and the turns that are over
  pub words : s.words ≡ board.tickets ∷ board.served ∷ []
  -- there are at most 2^62 turns, so no count wraps
  pub few : board.served ≤ 2 ^ 62
  -- each turn that is over made one entry
  pub long : length board.log ≡ board.served
  -- the tickets from `served` on are out, each with one holder
  pub queue : board.served + sum_by (λ v. tickets_out v.phase) s.views ≡ board.tickets
  -- there are at most 16 seats: each has a part, and a seat that is made gets one of its maker's
  pub parts : sum_by (λ v. v.parts) s.views ≤ 16
  -- what each holder knows holds
  pub each : (j : ℕ) (v : Holder T E) → get_elem? s.views j ≡ some v → Knows session_of opening board s.homes j v v.phase
  -- each entry is of a session that has a seat
  pub entries : All (λ e. session_of e < board.sessions) board.log
  -- the state is in the slot, or with the one whose turn it is
  pub slot : IsHome log_of lawful opening board.log s.homes ⊎ IsOut s.homes s.views (board.taker board.served)
