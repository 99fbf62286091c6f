-- Worked values of show texts.
use Rattle.std.specs.Prelude.{◌≡◌, List, [], ◌∷◌, ℕ, codes}
use Rattle.std.proofs.Common.{refl}
use Rattle.std.specs.Fmt.{digits}
use Rattle.hex.specs.Hex.{encode_with}
use Rattle.packet_model.specs.declared.cause.BadCause.{BadCause}
use Rattle.packet_model.specs.declared.cause.BadCause.TheVariants.{Short, Marker, WrongKey, ShortData}
use Rattle.body_model.specs.declared.content.Content.TheVariants.{Empty, Good, Bad}
use Rattle.show_model.specs.declared.item.ShowItem.{ShowItem}
use Rattle.show_model.specs.declared.item.ShowWhat.{ShowWhat}
use Rattle.show_model.specs.declared.item.ShowWhat.TheVariants.{Dir, File, Foreign}
use Rattle.show_model.specs.ShowText.{item_line, show_text}

abbrev file : ℕ → List (List ℕ) → ShowWhat → ShowItem
file node path what = record { node = node; path = path; what = what }

an_empty_file : show_text (file 1 (codes "f" ∷ []) (File Empty) ∷ []) ≡ codes "ecryptfs-show 1\nf 1 /f empty\nend\n"
unfolding digits encode_with
an_empty_file = refl

one_octet : item_line (file 1 (codes "f" ∷ []) (File (Bad (Short 1)))) ≡ codes "f 1 /f bad short 1\n"
unfolding digits encode_with
one_octet = refl

a_file_in_a_directory :
    show_text (file 1 (codes "a" ∷ []) Dir ∷ file 2 (codes "a" ∷ codes "b" ∷ []) (File (Bad (Short 0))) ∷ [])
    ≡ codes "ecryptfs-show 1\nd 1 /a\nf 2 /a/b bad short 0\nend\n"
unfolding digits encode_with
a_file_in_a_directory = refl

no_octets : item_line (file 1 (codes "f" ∷ []) (File (Good []))) ≡ codes "f 1 /f good 0 -\n"
unfolding digits encode_with
no_octets = refl

one_good_octet : item_line (file 2 (codes "f" ∷ []) (File (Good (18 ∷ [])))) ≡ codes "f 2 /f good 1 12\n"
unfolding digits encode_with
one_good_octet = refl

abbrev bad : BadCause → List ℕ
bad cause = item_line (file 1 (codes "f" ∷ []) (File (Bad cause)))

a_marker : bad (Marker 0 0xabcdef01) ≡ codes "f 1 /f bad marker 00000000 abcdef01\n"
unfolding digits encode_with
a_marker = refl

two_signatures : bad (WrongKey (1 ∷ 2 ∷ 3 ∷ 4 ∷ 5 ∷ 6 ∷ 7 ∷ 8 ∷ []) (9 ∷ 0 ∷ 0 ∷ 0 ∷ 0 ∷ 0 ∷ 0 ∷ 255 ∷ [])) ≡ codes "f 1 /f bad wrongkey 0102030405060708 09000000000000ff\n"
unfolding digits encode_with
two_signatures = refl

short_data : bad (ShortData 12287 12288) ≡ codes "f 1 /f bad shortdata 12287 12288\n"
unfolding digits encode_with
short_data = refl

a_foreign_entry :
    show_text (file 1 (codes "a" ∷ []) Dir ∷ file 2 (codes "a" ∷ []) (Foreign (codes "x")) ∷ file 3 [] (Foreign (codes "y z")) ∷ [])
    ≡ codes "ecryptfs-show 1\nd 1 /a\nx 2 /a/x\nx 3 /y%20z\nend\n"
unfolding digits encode_with
a_foreign_entry = refl
