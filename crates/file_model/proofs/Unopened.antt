-- A node that no entry of a log opens.
use Rattle.std.proofs.Common.{◌≡◌, ℕ, ◌⊎◌, inl, inr, Bool, false, List, [], ◌∷◌, refl, ap, subst, ◌∙◌}
use Rattle.std.specs.Prelude.{◌==◌, ◌&&◌, ◌||◌}
use Rattle.std.specs.List.{AllByRecursion}
use Rattle.std.proofs.lemmas.Bool.Decides.{eqb_tells}
use Rattle.session_model.specs.declared.file.FileCall.{FileCall}
use Rattle.session_model.specs.declared.file.FileCall.TheVariants.{Attach, Read, Write, Truncate, Size, Sync, Detach}
use Rattle.session_model.specs.declared.file.FileReply.{FileReply}
use Rattle.session_model.specs.declared.entry.FileEntry.{FileEntry}
use Rattle.session_model.proofs.OpenedNodes.{OpensOnly}
use Rattle.file_model.specs.Shard.{opens, was_opened}

-- a call opens a file only if it asks for that
attaches : (call : FileCall) (reply : FileReply) → ((slot : ℕ) × (call ≡ Attach slot)) ⊎ (opens call reply ≡ false)
attaches (Attach slot) reply = inl (slot, refl)
attaches (Read slot at len) reply = inr refl
attaches (Write slot at octets) reply = inr refl
attaches (Truncate slot size) reply = inr refl
attaches (Size slot) reply = inr refl
attaches (Sync slot) reply = inr refl
attaches (Detach slot) reply = inr refl

not_opening : (P : ℕ → Type 0) (n : ℕ) (e : FileEntry) → (P n → ⊥) → OpensOnly P e → ((e.node == n) && opens e.call e.reply) ≡ false
not_opening P n e none only = elim (eqb_tells e.node n) [
  | inl same ↦ elim (attaches e.call e.reply) [
    | inl attach ↦ absurd (none (subst P same.1 (only.node attach.0 attach.1)))
    | inr not ↦ ap (λ (b : Bool). b && opens e.call e.reply) same.0 ∙ not
  ]
  | inr other ↦ ap (λ (b : Bool). b && opens e.call e.reply) other.0
]

neither : (x y : Bool) → x ≡ false → y ≡ false → (x || y) ≡ false
neither x y p q = ap (λ (b : Bool). b || y) p ∙ q

-- A node of which doesn't hold what holds of each node that is opened was not opened.
pub not_opened : (P : ℕ → Type 0) (n : ℕ) (log : List FileEntry) → (P n → ⊥) → AllByRecursion (OpensOnly P) log → was_opened n log ≡ false
not_opened P n [] none all = refl
not_opened P n (e ∷ log) none all = neither _ _ (not_opening P n e none all.0) (not_opened P n log none all.1)
