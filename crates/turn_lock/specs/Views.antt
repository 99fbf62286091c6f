-- What contracts see of a lock, a seat and a note.
use Rattle.std.specs.Prelude.{ℕ, List}
use Rattle.atomic_table.specs.Seated.{TableId}

-- a lock: what tells it from every other one, the state that it began with, and how many sessions have a seat
pub record LockView (T : Type 0) : Type 0 where
  pub id : TableId
  pub opening : T
  pub sessions : ℕ

-- a seat: its lock, its session, the log as far as it has seen it, and the entries of its own turns
pub record SeatView (T E : Type 0) : Type 0 where
  pub lock : LockView T
  pub session : ℕ
  pub seen : List E
  pub mine : List E

-- a note: its lock, and the log as far as its maker had seen it
pub record NoteView (T E : Type 0) : Type 0 where
  pub lock : LockView T
  pub seen : List E
