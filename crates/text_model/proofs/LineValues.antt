-- Worked values of the spelling.
use Rattle.std.proofs.Common.{◌≡◌, [], ◌∷◌, refl}
use Rattle.std.specs.Prelude.{codes}
use Rattle.std.specs.Fmt.{digits}
use Rattle.hex.specs.Hex.{encode_with}
use Rattle.text_model.specs.Line.{line, number, hex, name, path}

two_fields : line (codes "script" ∷ number 120 ∷ []) ≡ codes "script 120\n"
unfolding digits
two_fields = refl

no_number_but_zero : number 0 ≡ codes "0"
unfolding digits
no_number_but_zero = refl

octets_in_hex : hex (0 ∷ 127 ∷ 171 ∷ 255 ∷ []) ≡ codes "007fabff"
unfolding encode_with
octets_in_hex = refl

-- a blank, a percent sign, a line end and an octet that is no ASCII are spelled by their digits
escaped_name : name (97 ∷ 32 ∷ 37 ∷ 10 ∷ 255 ∷ 126 ∷ []) ≡ codes "a%20%25%0a%ff~"
unfolding encode_with
escaped_name = refl

root_path : path [] ≡ codes "/"
root_path = refl

two_parts : path (codes "a" ∷ codes "b c" ∷ []) ≡ codes "/a/b%20c"
unfolding encode_with
two_parts = refl
