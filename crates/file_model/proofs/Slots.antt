-- The slots that have a file open, and whether a log opened it.
use Rattle.std.proofs.Common.{ℕ, ◌≡◌, ◌≢◌, Bool, true, false, List, [], ◌∷◌, ◌++◌, refl, ◌∙◌, ap}
use Rattle.std.specs.Prelude.{◌==◌, ◌&&◌, ◌||◌, not}
use Rattle.std.specs.List.{list_any}
use Rattle.std.proofs.lemmas.List.Folds.{list_any-append}
use Rattle.session_model.specs.declared.entry.FileEntry.{FileEntry}
use Rattle.file_model.specs.declared.open_slot.OpenSlot.{OpenSlot}
use Rattle.file_model.specs.ByteFile.{is_attached, is_open_slot, with_slot, without_slot}
use Rattle.file_model.specs.Shard.{opens, was_opened}

-- one entry more
pub was_opened-push : (node : ℕ) (log : List FileEntry) (e : FileEntry) → was_opened node (log ++ e ∷ []) ≡ (was_opened node log || ((e.node == node) && opens e.call e.reply))
was_opened-push node log e = list_any-append (λ (x : FileEntry). (x.node == node) && opens x.call x.reply) log (e ∷ []) ∙ ap (λ (b : Bool). was_opened node log || b) (or_false ((e.node == node) && opens e.call e.reply))
  where
    or_false : (b : Bool) → (b || false) ≡ b
    or_false true = refl
    or_false false = refl

-- of those that are left behind one there is none, or some
pub nothing_left : (slots : List OpenSlot) (session slot : ℕ) → list_any (λ open_slot. not (is_open_slot session slot open_slot)) slots ≡ false → without_slot slots session slot ≡ []
nothing_left [] session slot none = refl
nothing_left (p ∷ slots) session slot none = by_test (not (is_open_slot session slot p)) refl none (nothing_left slots session slot)
  where
    by_test : (b : Bool) → not (is_open_slot session slot p) ≡ b → (b || list_any (λ open_slot. not (is_open_slot session slot open_slot)) slots) ≡ false
        → (list_any (λ open_slot. not (is_open_slot session slot open_slot)) slots ≡ false → without_slot slots session slot ≡ []) → without_slot (p ∷ slots) session slot ≡ []
    by_test true is never later = absurd cc
    by_test false is rest later = rw is (later rest)

pub something_left : (slots : List OpenSlot) (session slot : ℕ) → list_any (λ open_slot. not (is_open_slot session slot open_slot)) slots ≡ true → without_slot slots session slot ≢ []
something_left [] session slot some = absurd cc
something_left (p ∷ slots) session slot some = by_test (not (is_open_slot session slot p)) refl some (something_left slots session slot)
  where
    by_test : (b : Bool) → not (is_open_slot session slot p) ≡ b → (b || list_any (λ open_slot. not (is_open_slot session slot open_slot)) slots) ≡ true
        → (list_any (λ open_slot. not (is_open_slot session slot open_slot)) slots ≡ true → without_slot slots session slot ≢ []) → without_slot (p ∷ slots) session slot ≢ []
    by_test true is some later = rw is (λ e. absurd cc)
    by_test false is rest later = rw is (later rest)

-- a slot that was added
pub with_slot_some : (slots : List OpenSlot) (session slot : ℕ) → slots ≢ [] → with_slot slots session slot ≢ []
with_slot_some slots session slot some = by_test (is_attached slots session slot) refl
  where
    behind : (xs : List OpenSlot) (x : OpenSlot) → xs ++ x ∷ [] ≢ []
    behind [] x e = absurd cc
    behind (y ∷ ys) x e = absurd cc

    by_test : (b : Bool) → is_attached slots session slot ≡ b → with_slot slots session slot ≢ []
    by_test true is = rw is some
    by_test false is = rw is (behind slots (record { session = session; slot = slot }))
