-- What each step of the lock changes in a holder's view, and what it tells.
use Rattle.std.specs.Prelude.{◌≡◌, ◌≢◌, ℕ, ◌+◌, ◌-◌, ◌==◌, Bool, true, false, List, [], ◌∷◌, ◌++◌, length, Option, Some, None, All, Any, ◌⊎◌, ◌<◌, MatchBool, if◌then◌else◌}
use mathlib.Core.List.{IsPrefix}
use Rattle.atomic_table.specs.Table.{Me, Step}
use Rattle.atomic_table.specs.Seated.{TableId}
use Rattle.turn_lock.specs.declared.holder.Holder.{Holder}
use Rattle.turn_lock.specs.declared.holder.Phase.{Phase}
use Rattle.turn_lock.specs.declared.holder.Phase.TheVariants.{Gone, Told, Idle, Waiting, InTurn}
use Rattle.turn_lock.specs.Views.{LockView, SeatView}
use Rattle.turn_lock.specs.Turns.{session_entries, longer}

module _ {E : Type 0} where
  abbrev pub idle_phase : Phase E → Bool
  idle_phase Idle = true
  idle_phase _ = false

  abbrev pub told_phase : Phase E → Bool
  told_phase Told = true
  told_phase _ = false

module _ {T E : Type 0} where
  -- it has a seat between turns
  abbrev pub is_idle : Holder T E → Bool
  is_idle v = idle_phase v.phase

  -- it has a note
  abbrev pub is_told : Holder T E → Bool
  is_told v = told_phase v.phase

  -- the seat of session 0 at the start
  abbrev pub first_holder : T → Holder T E
  first_holder state = record { opening = Some state; session = 0; sessions = 1; parts = 16; seen = []; mine = []; gathered = []; aside = []; phase = Idle }

  -- what was spent
  abbrev pub spent_holder : Holder T E
  spent_holder = record { opening = None; session = 0; sessions = 0; parts = 0; seen = []; mine = []; gathered = []; aside = []; phase = Gone }

  -- a note of what was seen
  abbrev pub note_holder : Holder T E → Holder T E
  note_holder v = record { opening = v.opening; session = 0; sessions = 0; parts = 0; seen = v.seen; mine = []; gathered = []; aside = []; phase = Told }

  -- a seat that learned a note
  abbrev pub learned_holder : Holder T E → Holder T E → Holder T E
  learned_holder v note = record v { seen = longer v.seen note.seen; aside = v.seen ∷ note.seen ∷ v.aside }

  -- the seat of session 0 after it made another, and that other seat
  abbrev pub maker_holder : Holder T E → Holder T E
  maker_holder v = record v { sessions = v.sessions + 1; parts = v.parts - 1 }

  abbrev pub made_holder : Holder T E → Holder T E
  made_holder v = record { opening = v.opening; session = v.sessions; sessions = 0; parts = 1; seen = v.seen; mine = []; gathered = []; aside = []; phase = Idle }

  -- a seat that gathered another
  abbrev pub gathering_holder : Holder T E → Holder T E → Holder T E
  gathering_holder v w = record v { sessions = if v.sessions == 0 then w.sessions else v.sessions; gathered = (w.session, w.mine) ∷ v.gathered; aside = w.seen ∷ v.aside }

  -- a ticket is taken
  abbrev pub Takes : Step (Option T) → Me (Option T) (Holder T E) → ℕ → Me (Option T) (Holder T E) → Type 0
  Takes step me found me' = me' ≡ (record me.0 { phase = Waiting found }, me.1)

  -- a look at the tickets, by which all that was set aside is known to begin one log
  pub record Tells (step : Step (Option T)) (me : Me (Option T) (Holder T E)) (found : ℕ) (me' : Me (Option T) (Holder T E)) : Type 0 where
    pub after : me' ≡ (record me.0 { aside = [] }, me.1)
    pub log : List E
    pub seen : IsPrefix me.0.seen log
    pub aside : All (λ xs. IsPrefix xs log) me.0.aside

module _ {T E : Type 0} (log_of : T → List E) (session_of : E → ℕ) (lawful : T → T → Type 0) where
  -- The turn n begins: the state is taken out
  pub record Begins (n : ℕ) (v : Holder T E) (me : Me (Option T) (Holder T E)) : Type 0 where
    pub state : T
    pub slot : me.1 ≡ (0, Some state) ∷ []
    pub view : me.0 ≡ record v { phase = InTurn n (log_of state) }
    pub seen : IsPrefix v.seen (log_of state)
    pub long : length (log_of state) ≡ n
    pub mine : session_entries session_of v.session (log_of state) ≡ v.mine
    pub lawful_state : (opening : T) → v.opening ≡ Some opening → lawful opening state

  -- a look at the turns that are over begins the turn exactly where the ticket is the next
  abbrev pub LooksIn : Phase E → Me (Option T) (Holder T E) → ℕ → Me (Option T) (Holder T E) → Type 0
  LooksIn (Waiting n) me found me' = MatchBool (found == n) (Begins n me.0 me') (me' ≡ me)
  LooksIn _ me found me' = me' ≡ me

  abbrev pub Looks : Step (Option T) → Me (Option T) (Holder T E) → ℕ → Me (Option T) (Holder T E) → Type 0
  Looks step me found me' = LooksIn me.0.phase me found me'

module _ {T E : Type 0} (log_of : T → List E) (session_of : E → ℕ) where
  -- a seat that put a state home
  abbrev pub finished_with : Holder T E → Option T → Holder T E
  finished_with v None = v
  finished_with v (Some state) = record v { phase = Idle; seen = log_of state; mine = session_entries session_of v.session (log_of state) }

  abbrev pub finished_holder : Holder T E → List (ℕ × Option T) → Holder T E
  finished_holder v [] = v
  finished_holder v (x ∷ xs) = finished_with v x.1

  -- the turn is over
  abbrev pub Finishes : Step (Option T) → Me (Option T) (Holder T E) → ℕ → Me (Option T) (Holder T E) → Type 0
  Finishes step me found me' = me' ≡ (finished_holder me.0 me.1, [])

-- a badge's view, where it has one
abbrev pub holder_of : {T E : Type 0} → List (Holder T E) → Holder T E
holder_of [] = spent_holder
holder_of (v ∷ vs) = v

-- What a seat between turns has in its badge
pub record IsSeat {T E : Type 0} (lock : LockView T) (session : ℕ) (table : TableId) (holders : List (Holder T E)) : Type 0 where
  pub table_is : table ≡ lock.id
  pub one : length holders ≡ 1
  pub idle : is_idle (holder_of holders) ≡ true
  pub opening : (holder_of holders).opening ≡ Some lock.opening
  pub session_is : (holder_of holders).session ≡ session
  pub first : session ≡ 0 → (holder_of holders).sessions ≡ lock.sessions
  pub others : session ≢ 0 → (holder_of holders).sessions ≡ 0

-- What a note has in its badge
pub record IsNote {T E : Type 0} (lock : LockView T) (table : TableId) (holders : List (Holder T E)) : Type 0 where
  pub table_is : table ≡ lock.id
  pub one : length holders ≡ 1
  pub told : is_told (holder_of holders) ≡ true

-- one holder has all other sessions gathered
abbrev pub HasAll : {T E : Type 0} → ℕ → Holder T E → Type 0
HasAll sessions v = (session : ℕ) → session < sessions → (v.session ≡ session) ⊎ Any (λ g. g.0 ≡ session) v.gathered

-- The log at the end, by what one holder that gathered seats knows
pub record IsEndLog {T E : Type 0} (session_of : E → ℕ) (v : Holder T E) (log : List E) : Type 0 where
  pub seen : IsPrefix v.seen log
  pub aside : All (λ xs. IsPrefix xs log) v.aside
  pub mine : session_entries session_of v.session log ≡ v.mine
  pub gathered : All (λ g. session_entries session_of g.0 log ≡ g.1) v.gathered

-- A holder that has a seat, as contracts see the seat
pub record IsOwner {T E : Type 0} (seat : SeatView T E) (v : Holder T E) : Type 0 where
  pub opening : v.opening ≡ Some seat.lock.opening
  pub session : v.session ≡ seat.session
  pub first : seat.session ≡ 0 → v.sessions ≡ seat.lock.sessions
  pub others : seat.session ≢ 0 → v.sessions ≡ 0
  pub seen : v.seen ≡ seat.seen
  pub mine : v.mine ≡ seat.mine

-- A turn, between two views of its holder
pub record HasEnded {T E A : Type 0} (log_of : T → List E) (session_of : E → ℕ) (lawful : T → T → Type 0) (answers : T → A → T → Type 0) (answer : A) (index : ℕ) (v w : Holder T E) : Type 0 where
  pub before : T
  pub after : T
  pub entry : E
  pub gives : answers before answer after
  pub seen : IsPrefix v.seen (log_of before)
  pub added : log_of after ≡ log_of before ++ entry ∷ []
  pub place : index ≡ length (log_of before)
  pub author : session_of entry ≡ v.session
  pub lawful_before : (opening : T) → v.opening ≡ Some opening → lawful opening before
  pub lawful_after : (opening : T) → v.opening ≡ Some opening → lawful opening after
  pub mine : session_entries session_of v.session (log_of after) ≡ v.mine ++ entry ∷ []
  pub view : w ≡ record v { seen = log_of after; mine = v.mine ++ entry ∷ [] }

-- A note that was learned, between two views of the holder
pub record HasHeard {T E : Type 0} (note v w : Holder T E) : Type 0 where
  pub view : w ≡ record v { seen = longer v.seen note.seen; aside = [] }
  pub one : IsPrefix v.seen note.seen ⊎ IsPrefix note.seen v.seen
  pub own : IsPrefix v.seen w.seen
  pub told : IsPrefix note.seen w.seen
