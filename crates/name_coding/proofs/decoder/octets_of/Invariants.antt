use Rattle.std.proofs.Common.{◌≡◌, ◌%◌, ◌++◌, length}
use Rattle.coding_model.specs.NameCoding.{octets_of, AreLetters}
use Rattle.name_coding.proofs.decoder.octets_of.Given as goal

abbrev pub invariant-groups : goal.invariant-groups
invariant-groups l = record {
  so_far : l.octets.items ++ octets_of l.rest ≡ octets_of l.letters;
  letters : AreLetters l.rest;
  whole : length l.rest % 4 ≡ 0;
}

abbrev pub decreases-groups : goal.decreases-groups
decreases-groups l = length l.rest
