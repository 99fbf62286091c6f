use Rattle.std.proofs.Common.{◌≡◌, ℕ, ◌+◌, ◌-◌, ◌++◌, length, replicate, Result, Ok, Err}
use Rattle.std.specs.Prelude.{OnErr}
use Rattle.tree_model.specs.declared.place.Place.TheVariants.{Nothing}
use Rattle.lower_mem.specs.Names.{store_in}
use Rattle.lower_mem.proofs.Stores.{store_grown, foreign_grown}
use Rattle.lower_mem.proofs.Conditions.{MayCreate, may_create}
use Rattle.lower_mem.proofs.Calls.{store_created, foreign_created}
use Rattle.lower_mem.proofs.changes.create.Goals.{After-grow}
use Rattle.lower_mem.proofs.changes.create.Goals as goal

on_err : {T E : Type 0} {P : Type 0} (r : Result T E) → P → OnErr r P
on_err (Ok x) h = tt
on_err (Err e) h = h

may : (c : After-grow) → MayCreate c.args.tree.now.places c.args.dir c.args.name.now c.args.node
may c = may_create c.args.tree.now.places c.args.dir c.args.name.now c.args.node c.places-places.ensures.lawful c.requires

pub enter-requires-clause-absent : goal.enter-requires-clause-absent
enter-requires-clause-absent c = rw (c.grow.ensures, c.in_ok-name.ensures) (may (goal.at.enter-requires-clause-absent c).After-grow).absent

pub enter-requires-clause-new : goal.enter-requires-clause-new
enter-requires-clause-new c = rw c.grow.ensures (may (goal.at.enter-requires-clause-new c).After-grow).nothing

pub returns-clause-ok : goal.returns-clause-ok
returns-clause-ok c =
    rw (c.in_ok-enter.ensures.ok, c.grow.ensures, c.in_ok-name.ensures) (store_created c.args.tree.now.places c.args.dir c.args.name.now c.args.kind c.args.node c.places-places.ensures.lawful (may (goal.at.returns-clause-ok c).After-grow))

pub returns-in_err-enter-clause-err : goal.returns-in_err-enter-clause-err
returns-in_err-enter-clause-err c =
    let places = c.args.tree.now.places in
    let n = c.args.node + 1 - length places in
    rw (c.in_err-enter.ensures.err, c.grow.ensures) (on_err {P = (k : ℕ) → store_in (places ++ replicate n Nothing) k ≡ store_in places k} c.from_residual-in_err-enter.result (store_grown places n))

pub returns-clause-foreign : goal.returns-clause-foreign
returns-clause-foreign c =
    rw (c.in_ok-enter.ensures.ok, c.grow.ensures, c.in_ok-name.ensures) (foreign_created c.args.tree.now.places c.args.dir c.args.name.now c.args.kind c.args.node c.places-places.ensures.lawful (may (goal.at.returns-clause-foreign c).After-grow))

pub returns-in_err-enter-clause-foreign : goal.returns-in_err-enter-clause-foreign
returns-in_err-enter-clause-foreign c = rw (c.in_err-enter.ensures.err, c.grow.ensures) (foreign_grown c.args.tree.now.places (c.args.node + 1 - length c.args.tree.now.places))
