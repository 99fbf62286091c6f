use Rattle.std.proofs.Common.{◌≡◌, List, ℕ, Option, Some, None, Result, Ok, Err, refl, sym, subst, arith}
use Rattle.std.specs.Prelude.{IfOk, IsOkAnd, OnErr}
use Rattle.std.specs.Option.{option_copied}
use Rattle.std.proofs.lemmas.Result.{IfOk-weaker}
use Rattle.key_model.specs.SignedKey.{SignedKey, signatures}
use Rattle.packet_model.specs.declared.cause.BadCause.{BadCause}
use Rattle.packet_model.specs.Metadata.{FileMetadata, FileTakesMemory, metadata}
use Rattle.octet_model.proofs.Octets.{AreOctets-from_each}
use Rattle.packet_model.proofs.Headers.{file_takes_memory}
use Rattle.xattr_meta.specs.declared.file_meta.FileMeta.{FileMeta}
use Rattle.xattr_meta.specs.FileMeta.{IsFileMeta, AreFileMeta}
use Rattle.body_model.specs.declared.content.Content.{Content}
use Rattle.content_model.specs.Content.{IsContent, IsContentBy}
use Rattle.content_model.proofs.OneContent.{one_content}
use Rattle.extent_file.proofs.content.decode_body.Goals as goal

-- what the metadata of a good file is
good : (ring : List SignedKey) (meta : FileMeta) (o : Option FileMeta) (read : Result (Option FileMetadata) BadCause) → o ≡ Some meta → IsOkAnd read (AreFileMeta ring o) → (found : FileMetadata) × (read ≡ Ok (Some found)) × IsFileMeta ring meta found
good ring meta None read is h = absurd cc
good ring meta (Some m) (Err cause) is h = absurd h
good ring meta (Some m) (Ok None) is h = absurd h
good ring meta (Some m) (Ok (Some found)) is h = let same : m ≡ meta = cc in (found, refl, subst (λ (x : FileMeta). IsFileMeta ring x found) same h)

on_err : {A E : Type 0} (r : Result A E) (P : Type 0) → P → OnErr r P
on_err (Ok x) P h = tt
on_err (Err e) P h = h

pub returns-in-Ok-Some : goal.returns-in-Ok-Some
returns-in-Ok-Some g c =
    let body : List ℕ = c.args.body.now in
    let attribute : Option (List ℕ) = option_copied c.args.attribute in
    let ring : List SignedKey = g.R.Ring.ring c.args.ring.now in
    let read : Result (Option FileMetadata) BadCause = metadata (signatures ring) body attribute in
    let found = good ring c.in-Ok-Some.meta c.in-Ok-Some.field-0 read c.in-Ok-Some.field-0-is (c.in-Ok-Some.ensures.read body (record { long = refl; same = λ _. refl })) in
    let content : IfOk c.good_content.result (λ x. IsContent ring body attribute x) =
    subst (λ (r : Result (Option FileMetadata) BadCause). IfOk c.good_content.result (λ x. IsContentBy ring r body x)) (sym found.1) (c.good_content.ensures ring found.0 found.2) in
    record {
      content = content;
      only =
          IfOk-weaker c.good_content.result (λ x. IsContent ring body attribute x) (λ x. (other : Content) → IsContent ring body attribute other → other ≡ x)
          (λ x is other h. one_content ring body attribute other x (AreOctets-from_each body (λ i. omega (arith, c.type_inv.body i))) h is) content;
      memory = on_err c.good_content.result (FileTakesMemory body attribute) (file_takes_memory (signatures ring) body attribute found.0 found.1);
    }
