-- Names of directory entries.
use Rattle.std.specs.Prelude.{ℕ, Bool, List, length, not, nat_lt, ◌==◌, ◌&&◌}
use Rattle.std.specs.List.{list_all}

-- any octet but 0 and the slash
abbrev pub is_name_octet : ℕ → Bool
is_name_octet c = nat_lt c 256 && not (c == 0) && not (c == 47)

-- `.` or `..`, or no octet at all
abbrev pub is_dots : List ℕ → Bool
is_dots octets = nat_lt (length octets) 3 && list_all (λ c. c == 46) octets

-- 1 to 255 octets, none of them 0 or a slash, and neither `.` nor `..`
abbrev pub is_name : List ℕ → Bool
is_name octets = nat_lt (length octets) 256 && list_all is_name_octet octets && not (is_dots octets)
