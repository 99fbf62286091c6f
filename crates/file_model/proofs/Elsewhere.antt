-- What stands for a file goes on standing while its lower file stays and rooms don't shrink.
use Rattle.std.proofs.Common.{ℕ, ◌≡◌, ◌+◌, ◌*◌, ◌≤◌, List, length, Bool, Option, Some, None, arith, sym, subst}
use Rattle.body_model.specs.LowerFile.{LowerFile}
use Rattle.body_model.specs.Bodies.{HeldBodies}
use Rattle.body_model.specs.Format.{Format, content, needed}
use Rattle.file_model.specs.declared.open_slot.OpenSlot.{OpenSlot}
use Rattle.file_model.specs.ByteFile.{FileState}
use Rattle.file_model.specs.LaidOut.{IsExact, IsExactLength, IsReadAs, KeepsMetadata, LaidOut, Origin, Working, below, page_of, page_or}
use Rattle.file_model.specs.Shard.{IsLeft, StandsBy, state_by}

-- The store goes on with this lower file, and with rooms that are no smaller.
pub record GoesOn (old new : HeldBodies) (node : ℕ) : Type 0 where
  pub file : new.files node ≡ old.files node
  pub body_room : old.body_room node ≤ new.body_room node
  pub attribute_room : old.attribute_room node ≤ new.attribute_room node

pub laid_on : {K : Type 0} (format : Format K) (origin : Origin) (old new : HeldBodies) (node : ℕ) (w : Working K) (octets : List ℕ) → GoesOn old new node
    → LaidOut format origin old node w octets → LaidOut format origin new node w octets
laid_on format origin old new node w octets on laid = record {
  place = laid.place;
  size = laid.size;
  most = laid.most;
  extents = λ n within. subst (λ (f : LowerFile). page_of octets n ≡ page_or (w.page n) (below format f.body w n)) (sym on.file) (laid.extents n within);
  clean = λ n page within clean is. subst (λ (f : LowerFile). page ≡ below format f.body w n) (sym on.file) (laid.clean n page within clean is);
  dirty = laid.dirty;
  there = λ n within clean written. subst (λ (f : LowerFile). (w.opened.data_start + 4096 * n + 4096 ≤ length f.body) × IsExact format origin f.body w.opened n (page_of octets n)) (sym on.file) (laid.there n within clean written);
  metadata = subst (λ (f : LowerFile). IsReadAs format f w.opened.meta_place w.metadata_mark w.opened) (sym on.file) laid.metadata;
  kept = subst (λ (f : LowerFile). KeepsMetadata origin f w.opened.meta_place w.metadata_mark w.opened) (sym on.file) laid.kept;
  length_is = λ no_mark. subst (λ (f : LowerFile). needed w.opened.data_start w.opened.size ≤ length f.body) (sym on.file) (laid.length_is no_mark);
  exact = λ no_mark. subst (λ (f : LowerFile). IsExactLength origin f.body w.opened) (sym on.file) (laid.exact no_mark);
  body_room = omega (arith, laid.body_room, on.body_room);
  attribute_room = omega (arith, laid.attribute_room, on.attribute_room);
}

pub stands_on : {K : Type 0} (format : Format K) (first : LowerFile) (old new : HeldBodies) (node : ℕ) (opened : Bool) (w : Option (Working K)) (slots : List OpenSlot) (state : FileState) → GoesOn old new node
    → StandsBy format first old node opened w slots state → StandsBy format first new node opened w slots state
stands_on format first old new node opened (Some w) slots state on s = (s.0, s.1, s.2, laid_on format s.0 old new node w s.1 on s.3, s.4, s.5, s.6)
stands_on format first old new node opened None slots state on s =
    (s.0, subst (λ (f : LowerFile). state ≡ state_by (content format f)) (sym on.file) s.1, subst (λ (f : LowerFile). IsLeft format node first opened f) (sym on.file) s.2)
