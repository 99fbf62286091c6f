-- What the calls of a lock tell: a turn, a note that is learned, and the end.
use Rattle.std.specs.Prelude.{◌≡◌, ◌⊎◌, ℕ, zero, suc, ◌<◌, ◌==◌, List, [], ◌∷◌, ◌++◌, length, filter, Any, nat_lt, if◌then◌else◌}
use mathlib.Core.List.{IsPrefix}
use Rattle.turn_lock.specs.Views.{LockView, SeatView, NoteView}

-- the entries of one session, in order
abbrev pub session_entries : {E : Type 0} → (E → ℕ) → ℕ → List E → List E
session_entries session_of session log = filter (λ e. session_of e == session) log

-- the longer of two lists; the first where they are equally long
abbrev pub longer : {E : Type 0} → List E → List E → List E
longer xs ys = if nat_lt (length xs) (length ys) then ys else xs

-- a session's seat before any turn: it has seen nothing
abbrev pub new_seat : {T E : Type 0} → LockView T → ℕ → SeatView T E
new_seat lock session = record { lock = lock; session = session; seen = []; mine = [] }

-- the first n seats of a new lock, from session 0 on
abbrev pub new_seats : {T E : Type 0} → LockView T → ℕ → List (SeatView T E)
new_seats lock zero = []
new_seats lock (suc n) = new_seats lock n ++ new_seat lock n ∷ []

-- A seat is extended by one entry
pub record Extends {T E : Type 0} (session_of : E → ℕ) (entry : E) (old new : SeatView T E) : Type 0 where
  -- it stays the seat of its lock and its session
  pub lock : new.lock ≡ old.lock
  pub session : new.session ≡ old.session
  -- it has seen all that it had, what others did in between, and the entry last
  pub between : List E
  pub seen : new.seen ≡ (old.seen ++ between) ++ entry ∷ []
  -- the entry is its session's, and the one that came to its own
  pub author : session_of entry ≡ old.session
  pub mine : new.mine ≡ old.mine ++ entry ∷ []
  -- of what it has seen, its session made exactly its own entries
  pub own : session_entries session_of old.session new.seen ≡ new.mine

-- One turn: the answer is that of one state, and the seat is extended by the entry that the turn added to it
pub record TakesTurn {T E A : Type 0} (log_of : T → List E) (session_of : E → ℕ) (lawful : T → T → Type 0) (answers : T → A → T → Type 0) (answer : A) (index : ℕ) (old new : SeatView T E) : Type 0 where
  pub before : T
  pub after : T
  pub entry : E
  -- the turn was taken on the one state, and left the other
  pub gives : answers before answer after
  -- that state's log begins with all that the seat had seen
  pub known : IsPrefix old.seen (log_of before)
  -- the entry was added at this index
  pub added : log_of after ≡ log_of before ++ entry ∷ []
  pub place : index ≡ length (log_of before)
  -- the seat has now seen the whole log
  pub seen : new.seen ≡ log_of after
  pub extends : Extends session_of entry old new
  -- both states may come about from the lock's opening state
  pub lawful_before : lawful old.lock.opening before
  pub lawful_after : lawful old.lock.opening after

-- A seat learns a note: what it has seen becomes the longer of its own and the note's, and nothing else changes
pub record Learns {T E : Type 0} (note : NoteView T E) (old new : SeatView T E) : Type 0 where
  pub new_seat : new ≡ record old { seen = longer old.seen note.seen }
  -- one of the two begins the other, so it has now seen both
  pub one : IsPrefix old.seen note.seen ⊎ IsPrefix note.seen old.seen
  pub own : IsPrefix old.seen new.seen
  pub told : IsPrefix note.seen new.seen

-- each session has its seat among these
abbrev pub HasEachSession : {T E : Type 0} → ℕ → List (SeatView T E) → Type 0
HasEachSession sessions seats = (session : ℕ) → session < sessions → Any (λ seat. seat.session ≡ session) seats

-- The log begins with what the seat has seen, and has of its session exactly its own entries
pub record EndsFor {T E : Type 0} (session_of : E → ℕ) (log : List E) (seat : SeatView T E) : Type 0 where
  pub seen : IsPrefix seat.seen log
  pub mine : session_entries session_of seat.session log ≡ seat.mine
