-- Moves, one behind another.
use Rattle.std.proofs.Common.{◌≡◌, ◌<◌, ℕ, List, sym, subst, append_assoc, refl}
use Rattle.std.proofs.lemmas.List.{append-nil}
use Rattle.session_model.specs.declared.entry.TreeEntry.{TreeEntry}
use Rattle.session_model.specs.declared.entry.FileEntry.{FileEntry}
use Rattle.session_model.specs.Histories.{Histories, nothing, joined}
use Rattle.session_model.specs.Session.{Member}
use Rattle.session_model.proofs.Falls.{move_falls, work}
use Rattle.session_run.specs.Made.{Moved}

pub joined_nothing : (h : Histories) → h ≡ joined h nothing
joined_nothing h = rw (append-nil h.tree, append-nil h.file) refl

pub joined_assoc : (a b c : Histories) → joined (joined a b) c ≡ joined a (joined b c)
joined_assoc a b c = rw (append_assoc a.tree b.tree c.tree, append_assoc a.file b.file c.file) refl

pub moved_falls : (tree tree' : List TreeEntry) (logs logs' : ℕ → List FileEntry) (was is : Member) → Moved tree tree' logs logs' was is → work is.session < work was.session
moved_falls tree tree' logs logs' was is m = subst (λ (x : Member). work x.session < work was.session) (sym m.goes) (move_falls was.session m.made m.t m.moves)
