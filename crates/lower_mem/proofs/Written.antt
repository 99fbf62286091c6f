-- Octets that are put into a body, and bodies of another length.
use Rattle.std.proofs.Common.{◌≡◌, ℕ, zero, suc, ◌≤◌, ◌+◌, ◌-◌, ◌/◌, min, max, List, ◌++◌, length, take, drop, replicate, refl, sym, ap, ◌∙◌, arith}
use Rattle.std.proofs.lemmas.List.{length-take, length-drop, length-append, length-replicate, take_at, drop_at, take-append-le, append_assoc, take-take, take_min, drop-drop}
use Rattle.octet_model.specs.Octets.{AreOctets}
use Rattle.octet_model.proofs.Octets.{AreOctets-append, AreOctets-take, AreOctets-drop}
use Rattle.body_model.specs.BodyCalls.{Writes, Tears, Resizes}
use Rattle.lower_mem.specs.declared.stored.TheConstants.{TORN}
use Rattle.lower_mem.specs.Files.{put_at, resized, torn}

length_same : (n v : ℕ) → length (replicate n v) ≡ n
length_same n v = length-replicate {A = ℕ} n v

module _ (at : ℕ) (octets old : List ℕ) where
  abbrev wide : List ℕ
  wide = old ++ replicate (at + length octets - length old) 0

  front_length : length (take at wide) ≡ at
  front_length = omega (arith, length-take at wide, length-append old (replicate (at + length octets - length old) 0), length_same (at + length octets - length old) 0)

  put_length : length (put_at at octets old) ≡ max (length old) (at + length octets)
  put_length = omega (arith, length-append (take at wide) (octets ++ drop (at + length octets) old), length-append octets (drop (at + length octets) old), length-drop (at + length octets) old, front_length)

  put_before : take (min at (length old)) (put_at at octets old) ≡ take at old
  put_before =
      take-append-le (min at (length old)) (take at wide) (octets ++ drop (at + length octets) old) (omega (arith, front_length))
      ∙ take-take (min at (length old)) at wide (omega arith)
      ∙ take-append-le (min at (length old)) old (replicate (at + length octets - length old) 0) (omega arith) ∙ take_min at old

  put_behind : drop (at + length octets) (put_at at octets old) ≡ drop (at + length octets) old
  put_behind =
      ap (drop (at + length octets)) (sym (append_assoc (take at wide) octets (drop (at + length octets) old)))
      ∙ drop_at (take at wide ++ octets) (drop (at + length octets) old) (at + length octets) (omega (arith, length-append (take at wide) octets, front_length))

  pub put_writes : Writes at octets old (put_at at octets old)
  put_writes = record {
    length_is = put_length;
    before = put_before;
    here = ap (take (length octets)) (drop_at (take at wide) (octets ++ drop (at + length octets) old) at front_length) ∙ take_at octets (drop (at + length octets) old) (length octets) refl;
    behind = put_behind;
  }

  -- fewer octets, of a write that failed
  pub put_tears : (count : ℕ) → length octets ≤ count → Tears at count old (put_at at octets old)
  put_tears count few = record {
    no_shorter = omega (arith, put_length);
    no_longer = omega (arith, put_length);
    before = put_before;
    behind =
        (let sum : at + length octets + (count - length octets) ≡ at + count = omega arith in
        let further : (body : List ℕ) → drop (count - length octets) (drop (at + length octets) body) ≡ drop (at + count) body = λ body. drop-drop (count - length octets) (at + length octets) body ∙ ap (λ (n : ℕ). drop n body) sum in
        sym (further (put_at at octets old)) ∙ ap (drop (count - length octets)) put_behind ∙ further old);
  }

zeros : (n : ℕ) → AreOctets (replicate n 0)
zeros zero = tt
zeros (suc n) = (omega arith, zeros n)

torn_fit : (n : ℕ) → AreOctets (replicate n TORN)
torn_fit zero = tt
torn_fit (suc n) = (omega arith, torn_fit n)

pub torn_octets : (count : ℕ) → AreOctets (torn count)
torn_octets count = torn_fit ((count + 1) / 2)

pub torn_few : (count : ℕ) → length (torn count) ≤ count
torn_few count = omega (arith, length_same ((count + 1) / 2) TORN)

pub put_octets : (at : ℕ) (octets old : List ℕ) → AreOctets octets → AreOctets old → AreOctets (put_at at octets old)
put_octets at octets old new was =
    AreOctets-append (take at (wide at octets old)) (octets ++ drop (at + length octets) old)
    (AreOctets-take at (wide at octets old) (AreOctets-append old (replicate (at + length octets - length old) 0) was (zeros (at + length octets - length old))))
    (AreOctets-append octets (drop (at + length octets) old) new (AreOctets-drop (at + length octets) old was))

pub resized_octets : (len : ℕ) (old : List ℕ) → AreOctets old → AreOctets (resized len old)
resized_octets len old was = AreOctets-append (take len old) (replicate (len - length old) 0) (AreOctets-take len old was) (zeros (len - length old))

pub resizes : (len : ℕ) (old : List ℕ) → Resizes len old (resized len old)
resizes len old = record {
  length_is = omega (arith, length-append (take len old) (replicate (len - length old) 0), length-take len old, length_same (len - length old) 0);
  front = take-append-le (min len (length old)) (take len old) (replicate (len - length old) 0) (omega (arith, length-take len old))
      ∙ take-take (min len (length old)) len old (omega arith) ∙ take_min len old;
}

-- the same body, as one of its own length
pub keeps_length : (old : List ℕ) → Resizes (length old) old old
keeps_length old = record { length_is = refl; front = take_min (length old) old }
