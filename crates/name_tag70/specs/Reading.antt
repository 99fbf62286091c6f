-- What a reader of names answers.
use Rattle.std.specs.Prelude.{ℕ, ◌≡◌, ◌≤◌, ◌-◌, ◌%◌, length, List, Option, Some, None, Result, Ok, Err}
use Rattle.answer_model.specs.Answer.{◌>>=◌}
use Rattle.names_model.specs.declared.fault.NameFault.{NameFault}
use Rattle.name_form.specs.declared.form.NameError.{NameError}
use Rattle.name_form.specs.declared.form.NameError.TheVariants.{Fault, Memory}
use Rattle.coding_model.specs.NameCoding.{decoded}
use Rattle.coding_model.specs.CodedName.{octets_coded, body_of, cipher_of, behind_lead, ecb_decrypted}

-- the fault that an error tells: none where memory ran out
abbrev pub fault_of : NameError → Option NameFault
fault_of (Fault fault) = Some fault
fault_of Memory = None

-- an answer as contracts see it
abbrev pub seen : {A : Type 0} → (A → List ℕ) → Result A NameFault → Result (List ℕ) NameFault
seen view (Ok x) = Ok (view x)
seen view (Err fault) = Err fault

-- the encrypted name of the packet that some octets are
abbrev pub cipher_in_packet : List ℕ → List ℕ → Result (List ℕ) NameFault
cipher_in_packet ours octets = body_of octets >>= cipher_of ours

-- the octets behind the lead of an encrypted name
abbrev pub octets_in_cipher : List ℕ → List ℕ → Result (List ℕ) NameFault
octets_in_cipher k cipher = behind_lead (ecb_decrypted k cipher)

abbrev pub octets_in_packet : List ℕ → List ℕ → List ℕ → Result (List ℕ) NameFault
octets_in_packet k ours packet = cipher_in_packet ours packet >>= octets_in_cipher k

-- the octets that a packet's letters hold, under this cipher key and this signature
abbrev pub octets_in_letters : List ℕ → List ℕ → List ℕ → Result (List ℕ) NameFault
octets_in_letters k ours letters = octets_coded (decoded letters) >>= octets_in_packet k ours

-- This body has a signature, a cipher code, and at least two blocks.
pub record HasBlocks (body : List ℕ) : Type 0 where
  pub least : 41 ≤ length body
  pub whole : (length body - 9) % 16 ≡ 0
