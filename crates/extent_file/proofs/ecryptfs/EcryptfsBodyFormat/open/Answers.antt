use Rattle.std.proofs.Common.{◌≡◌, List, ℕ, take, sym, subst, ap, arith}
use Rattle.std.specs.Option.{option_copied}
use Rattle.std.proofs.lemmas.List.{take_all}
use Rattle.lower_model.specs.declared.meta_place.MetaPlace.TheVariants.{Header}
use Rattle.content_model.specs.Ecryptfs.{FormatMount, EcryptfsMount, ecryptfs}
use Rattle.lower_tree.specs.Opening.{AnswersOpening, opening_of}
use Rattle.extent_file.specs.Reading.{opened_in}
use Rattle.extent_file.proofs.ecryptfs.EcryptfsBodyFormat.open.Goals as goal

pub returns-in-None-clause-opens : goal.returns-in-None-clause-opens
returns-in-None-clause-opens g c =
    let head : List ℕ = c.args.head.now in
    let mount : EcryptfsMount = c.args.self.now.mount in
    let all : take 4096 head ≡ head = take_all 4096 head (omega (arith, c.requires)) in
    let own : mount.key ≡ c.self.inside.ring = ap (λ (f : FormatMount). f.mount.key) (sym c.self.view_is) in
    let opened : AnswersOpening c.open_in-in-None.result (opened_in mount Header (take 4096 head) c.args.len) =
    subst (λ (xs : List ℕ). AnswersOpening c.open_in-in-None.result (opened_in mount Header xs c.args.len)) (sym all) (c.open_in-in-None.ensures mount own) in
    subst (λ a. AnswersOpening c.open_in-in-None.result (opening_of (ecryptfs mount) head (option_copied a) c.args.len)) (sym c.in-None.is) opened
