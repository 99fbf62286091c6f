-- How a lower tree is mounted, and how it is taken down again.
use Rattle.std.specs.Prelude.{ℕ, ◌≡◌, ◌⊎◌, true, List, Result, Ok, Err}
use Rattle.answer_model.specs.Count.{Rose}
use Rattle.lower_model.specs.declared.node.LowerNode.{LowerNode}
use Rattle.lower_model.specs.LowerTree.{IsLowerTree}
use Rattle.tree_model.specs.PlainTree.{PlainTree}
use Rattle.tree_model.specs.IsTree.{IsTree}
use Rattle.names_model.specs.NameForm.{NameForm}
use Rattle.names_model.specs.LowerPaths.{tree_paths}
use Rattle.namespace_model.specs.Carried.{Keeps}
use Rattle.opening_model.specs.Openings.{ShowsTree}
use Rattle.lower_tree.specs.Held.{HeldParts, TellAll, HoldTree, paths_held}
use Rattle.lower_tree.specs.Making.{AreFresh, AddsFaults}
use Rattle.served_model.specs.declared.end.ReportEnd.{ReportEnd}
use Rattle.served_model.specs.declared.end.ReportEnd.TheVariants.{Image, Stuck}
use Rattle.served_model.specs.declared.end.TheConstants.{MAKER_PART}
use Rattle.served_model.specs.ReportText.{stuck_text}
use Rattle.served_model.specs.Served.{Maker, IsStuckAtSplit, IsStuckAtOpening}
use Rattle.mounted_files.specs.declared.shards.StuckStore.{StuckStore}
use Rattle.mount_run.specs.declared.mount.MountError.{MountError}
use Rattle.mount_run.specs.declared.mount.MountError.TheVariants as errors

-- The maker counts what it did.
pub record IsUnchanged (before after : Maker) : Type 0 where
  pub tells : after.tells ≡ before.tells
  pub faults : after.faults ≡ before.faults
  pub tallies : (part : ℕ) → after.tallies part ≡ before.tallies part

-- The parts tell that they hold the tree of the image, and the plain tree over them is what the image shows under this form of names, and what they carry.
pub record TellsImage (form : NameForm) (image : List LowerNode) (parts : HeldParts) (tree : PlainTree) (kept : List (List ℕ)) : Type 0 where
  pub tell : TellAll parts
  pub hold : HoldTree parts image
  pub shows : ShowsTree form parts.names.entries tree kept
  pub keeps : Keeps form tree.places kept parts.names.entries

-- The parts of an image are mounted: no call on them has failed, and as far as the maker tells they hold the image's tree.
pub record IsMounted (form : NameForm) (maker : Maker) (image : List LowerNode) (parts : HeldParts) (tree : PlainTree) (kept : List (List ℕ)) : Type 0 where
  pub fresh : AreFresh parts
  pub is_tree : IsTree tree.places
  pub limit : tree.limit ≡ form.longest
  pub tells : maker.tells ≡ true → TellsImage form image parts tree kept

-- the maker failed to split the image, or its names to be opened
abbrev pub FailsToMount : Maker → Maker → MountError → Type 0
FailsToMount before after (errors.Stuck part first last) = IsStuckAtSplit before after (stuck_text part first last) ⊎ IsStuckAtOpening before after (stuck_text part first last)
FailsToMount before after errors.Memory = Unit {0}

-- The maker united the parts: to the tree that they held, as far as they and the maker tell it.
pub record IsUnited (before after : Maker) (parts : HeldParts) (image : List LowerNode) : Type 0 where
  pub lawful : IsLowerTree image
  pub same : before.tells ≡ true → TellAll parts → (path : List (List ℕ)) → tree_paths image path ≡ paths_held parts path
  pub calm : after.faults ≡ before.faults

-- or it failed
pub record FailsToUnite (before after : Maker) (part first last : ℕ) : Type 0 where
  pub part_is : part ≡ MAKER_PART
  pub first_is : first ≡ before.faults
  pub last_is : last ≡ after.faults
  pub rose : Rose before.faults after.faults

abbrev pub EndsAs : Maker → Maker → HeldParts → ReportEnd → Type 0
EndsAs before after parts (Image image) = IsUnited before after parts image
EndsAs before after parts (Stuck part first last) = FailsToUnite before after part first last

-- The parts were given back to the maker to be united, and this is the end of the report.
pub record IsUnitedOrNot (before after : Maker) (parts : HeldParts) (end : ReportEnd) : Type 0 where
  pub tells : after.tells ≡ before.tells
  pub counted : AddsFaults parts before.tallies after.tallies
  pub ends : EndsAs before after parts end

-- A store couldn't be written out: the parts were given back to the maker as they are, and the report ends with the store.
pub record IsGivenBack (before after : Maker) (parts : HeldParts) (stuck : StuckStore) (end : ReportEnd) : Type 0 where
  pub counted : AddsFaults parts before.tallies after.tallies
  pub calm : after.faults ≡ before.faults
  pub end_is : end ≡ Stuck stuck.part stuck.before stuck.after

-- The parts were given back to the maker, behind this write-out, and this is the end of the report.
abbrev pub IsTakenDown : Maker → Maker → HeldParts → Result (Unit {0}) StuckStore → ReportEnd → Type 0
IsTakenDown before after parts (Ok done) end = IsUnitedOrNot before after parts end
IsTakenDown before after parts (Err stuck) end = IsGivenBack before after parts stuck end
