use Rattle.std.proofs.Common.{◌≡◌, ◌<◌, ◌≤◌, ◌-◌, [], ◌∷◌, ◌++◌, length, get_or, Some, sym, ap, subst, ◌∙◌, arith}
use Rattle.std.specs.Prelude.{slice_get}
use Rattle.tree_model.specs.declared.listed.Listed.TheVariants.{Shown}
use Rattle.tree_model.specs.declared.place.Place.TheVariants.{Dir}
use Rattle.std.proofs.lemmas.Result.{on_ok_weaker}
use Rattle.tree_model.specs.Listing.{foreign_items}
use Rattle.tree_listing.specs.Adding.{path_at, IsIndex, AddsListing}
use Rattle.tree_listing.proofs.Items.{slice_get-index, index_kept, path_kept, index_last, IsEntry, entry_at, lists_none, lists_more, lists_all, lists_nothing}
use Rattle.tree_listing.proofs.adding.+add_directory.Goals as goal

-- a file, or nothing
pub returns-in_default : goal.returns-in_default
returns-in_default t c =
    let at = slice_get-index c.args.places.now c.args.number c.index-places-number.result c.requires.within c.index-places-number.is in
    lists_nothing c.args.places.now (path_at c.args.items.now.items c.args.directory) c.args.number c.index-places-number.result c.args.items.now.items at c.in_default.not-Dir

pub loop-entry-init : goal.loop-entry-init
loop-entry-init t c = lists_none c.args.places.now (path_at c.args.items.now.items c.args.directory) c.in-Dir.dir c.args.items.now.items

pub path_of-requires : goal.path_of-requires
path_of-requires t c =
    let kept = index_kept c.args.directory c.args.items.now.items c.loop-entry.invariant.done c.loop-entry.items.items c.loop-entry.invariant.added c.requires.index in
    subst (λ items. IsIndex c.args.directory items) (sym c.deref.ensures.value) kept

pub add_directory-requires : goal.add_directory-requires
add_directory-requires t c =
    let places = c.args.places.now in
    let d = c.in-Dir.dir in
    let e = c.entry-item.result in
    let i = c.loop-entry.entry-index in
    let at : slice_get places c.args.number ≡ Some (Dir d) = slice_get-index places c.args.number c.index-places-number.result c.requires.within c.index-places-number.is ∙ ap (λ p. Some p) c.in-Dir.is in
    let among = c.entries-entry-items.ensures.entries in
    let is : e ≡ get_or d.shown i e = c.entry-item.is ∙ ap (λ es. get_or es i e) among in
    let within : i < length d.shown = subst (λ es. i < length es) among c.loop-entry-test.true in
    let entry : IsEntry places c.args.number e.1 = entry_at places c.args.number i d e c.requires.tree c.requires.rise at within is in
    let node : c.node-in-loop-entry.result ≡ e.1 = c.node-in-loop-entry.ensures in
    let measure : length places - c.args.number ≡ t = c.decreases in
    let falls : length places - c.node-in-loop-entry.result < t = omega (arith, entry.behind, entry.within) in
    let last : c.len-index.result ≡ length c.loop-entry.items.items = c.len-index.ensures ∙ sym c.deref.ensures.len ∙ ap length c.deref.ensures.value in
    let index = index_last c.loop-entry.items.items c.push-in-loop-entry.new.self.items _ c.len-index.result c.in_ok-push-2.ensures.items last in
    (falls, (c.requires.tree, (c.requires.rise, (omega (arith, entry.within), index))))

pub loop-entry-preserved : goal.loop-entry-preserved
loop-entry-preserved t c =
    let places = c.args.places.now in
    let d = c.in-Dir.dir in
    let e = c.entry-item.result in
    let i = c.loop-entry.entry-index in
    let old = c.args.items.now.items in
    let now = c.loop-entry.items.items in
    let path = path_at old c.args.directory in
    let at : slice_get places c.args.number ≡ Some (Dir d) = slice_get-index places c.args.number c.index-places-number.result c.requires.within c.index-places-number.is ∙ ap (λ p. Some p) c.in-Dir.is in
    let among = c.entries-entry-items.ensures.entries in
    let is : e ≡ get_or d.shown i e = c.entry-item.is ∙ ap (λ es. get_or es i e) among in
    let within : i < length d.shown = subst (λ es. i < length es) among c.loop-entry-test.true in
    let entry : IsEntry places c.args.number e.1 = entry_at places c.args.number i d e c.requires.tree c.requires.rise at within is in
    let so_far = c.loop-entry.invariant in
    let kept = path_kept c.args.directory old so_far.done now so_far.added c.requires.index in
    let above : c.in_ok-path.path ≡ path = c.in_ok-path.ensures ∙ ap (λ items. path_at items c.args.directory) c.deref.ensures.value ∙ kept in
    let item_is : c.push.new.self ≡ path ++ e.0 ∷ [] = c.in_ok-push.ensures.ok ∙ ap (λ p. p ++ c.name.result.now ∷ []) above ∙ ap (λ n. path ++ n ∷ []) c.name.ensures in
    let pushed : c.push-in-loop-entry.new.self.items ≡ now ++ Shown c.push.new.self e.1 ∷ [] = c.in_ok-push-2.ensures.items ∙ ap (λ n. now ++ Shown c.push.new.self n ∷ []) c.node.ensures in
    let adds = subst (λ n. AddsListing places n (path_at c.push-in-loop-entry.new.self.items (Some c.len-index.result)) c.push-in-loop-entry.new.self.items c.add_directory.new.items.items) c.node-in-loop-entry.ensures c.in_ok-add_directory.ensures in
    lists_more places path c.push.new.self d i c.len-index.result old now c.push-in-loop-entry.new.self.items c.add_directory.new.items.items e within is entry.is_node so_far item_is pushed (c.len-index.ensures ∙ sym c.deref.ensures.len ∙ ap length c.deref.ensures.value) adds

pub add_foreign-requires : goal.add_foreign-requires
add_foreign-requires t c = index_kept c.args.directory c.args.items.now.items c.loop-entry.invariant.done c.loop-entry.items.items c.loop-entry.invariant.added c.requires.index

-- behind all entries and the foreign ones
pub returns : goal.returns
returns t c =
    let places = c.args.places.now in
    let d = c.in-Dir.dir in
    let i = c.loop-entry.entry-index in
    let old = c.args.items.now.items in
    let now = c.loop-entry.items.items in
    let path = path_at old c.args.directory in
    let at : slice_get places c.args.number ≡ Some (Dir d) = slice_get-index places c.args.number c.index-places-number.result c.requires.within c.index-places-number.is ∙ ap (λ p. Some p) c.in-Dir.is in
    let past : length d.shown ≤ i = subst (λ es. length es ≤ i) c.entries-entry-items.ensures.entries c.loop-entry-test.false in
    let so_far = c.loop-entry.invariant in
    let kept = path_kept c.args.directory old so_far.done now so_far.added c.requires.index in
    on_ok_weaker c.add_foreign.result (λ added.
    let foreign : c.add_foreign.new.items.items ≡ now ++ foreign_items path d.foreign = added ∙ ap (λ p. now ++ foreign_items p c.as_slice.result.now) kept ∙ ap (λ fs. now ++ foreign_items path fs) c.as_slice.ensures in
    lists_all places path c.args.number d i old now c.add_foreign.new.items.items at past so_far foreign) c.add_foreign.ensures
