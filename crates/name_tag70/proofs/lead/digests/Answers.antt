use Rattle.std.proofs.Common.{◌≡◌, List, ℕ, refl, sym, ap, ◌++◌, ◌∙◌, length, replicate}
use Rattle.md5.proofs.StandardFacts.{length-md5}
use Rattle.md5.specs.Md5.{md5}
use Rattle.name_tag70.proofs.Leads.{halves}
use Rattle.name_tag70.proofs.lead.digests.Goals as goal

pub returns : goal.returns
returns c =
    let first : c.copy_from_slice.new.self ≡ md5 c.args.key.now = c.copy_from_slice.ensures.after ∙ c.digest-first.ensures in
    let second : c.copy_from_slice-2.new.self ≡ md5 (md5 c.args.key.now) = c.copy_from_slice-2.ensures.after ∙ c.digest-second.ensures ∙ ap md5 c.digest-first.ensures in
    halves c.copy_from_slice.new.self c.copy_from_slice-2.new.self (replicate 16 0) (ap (λ (l : List ℕ). length l) first ∙ length-md5 c.args.key.now) refl refl ∙ (λ t. first t ++ second t)
