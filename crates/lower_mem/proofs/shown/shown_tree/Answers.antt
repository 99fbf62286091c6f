use Rattle.std.proofs.Common.{arith, ◌≡◌, ◌∙◌, ap, subst, sym}
use Rattle.names_model.specs.declared.limits.TheConstants.{LONGEST_PLAIN_NAME}
use Rattle.tree_model.specs.Shown.{shown_places}
use Rattle.lower_mem.proofs.ShownPlaces.{entered_places, entered_all, Enters, enters}
use Rattle.lower_mem.specs.Names.{store_in, HasNoForeign}
use Rattle.lower_mem.proofs.ShownStore.{store_shown, foreign_shown}
use Rattle.lower_mem.proofs.shown.shown_tree.Goals.{After-index-nodes-number}
use Rattle.lower_mem.proofs.shown.shown_tree.Goals as goal

next : (c : After-index-nodes-number) → Enters c.args.nodes.now c.loop-number.number LONGEST_PLAIN_NAME c.index-nodes-number.result
next c =
    enters c.args.nodes.now c.loop-number.number LONGEST_PLAIN_NAME c.index-nodes-number.result c.requires (omega arith) c.loop-number-test.true c.index-nodes-number.is

pub from_slice-requires : goal.from_slice-requires
from_slice-requires c = rw c.as_slice.ensures (next (goal.at.from_slice-requires c).After-index-nodes-number).name

pub enter-requires-clause-directory : goal.enter-requires-clause-directory
enter-requires-clause-directory c = rw c.loop-number.invariant (next (goal.at.enter-requires-clause-directory c).After-index-nodes-number).may.directory

pub enter-requires-clause-absent : goal.enter-requires-clause-absent
enter-requires-clause-absent c = rw (c.loop-number.invariant, c.in_ok-name.ensures, c.as_slice.ensures) (next (goal.at.enter-requires-clause-absent c).After-index-nodes-number).may.absent

pub enter-requires-clause-new : goal.enter-requires-clause-new
enter-requires-clause-new c = rw c.loop-number.invariant (next (goal.at.enter-requires-clause-new c).After-index-nodes-number).may.new

pub loop-number-preserved : goal.loop-number-preserved
loop-number-preserved c =
    let n = next (goal.at.loop-number-preserved c).After-index-nodes-number in
    let old : c.loop-number.tree ≡ record { limit = LONGEST_PLAIN_NAME; places = entered_places c.loop-number.number c.args.nodes.now } = c.loop-number.invariant in
    c.in_ok-enter.ensures.ok ∙ rw (c.in_ok-name.ensures, c.as_slice.ensures, old) n.next

-- all nodes are entered
pub returns-clause-names : goal.returns-clause-names
returns-clause-names c = λ k.
    let all : c.loop-number.tree.places ≡ shown_places c.args.nodes.now = ap (λ t. t.places) c.loop-number.invariant ∙ entered_all c.args.nodes.now c.loop-number.number (omega arith) in
    ap (λ ps. store_in ps k) all ∙ store_shown c.args.nodes.now c.requires k

pub returns-clause-plain : goal.returns-clause-plain
returns-clause-plain c =
    let all : c.loop-number.tree.places ≡ shown_places c.args.nodes.now = ap (λ t. t.places) c.loop-number.invariant ∙ entered_all c.args.nodes.now c.loop-number.number (omega arith) in
    subst HasNoForeign (sym all) (foreign_shown c.args.nodes.now)
