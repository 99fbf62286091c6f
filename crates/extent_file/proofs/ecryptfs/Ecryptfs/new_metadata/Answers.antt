use Rattle.std.proofs.Common.{◌≡◌, ℕ, ap, sym, subst, ◌∙◌, arith}
use Rattle.packet_model.specs.Metadata.{new_metadata}
use Rattle.content_model.specs.Extents.{wrapped_key}
use Rattle.content_model.specs.Ecryptfs.{FormatMount, header_for, new_key}
use Rattle.content_model.proofs.Extents.{wrapped_is}
use Rattle.extent_file.proofs.ecryptfs.Ecryptfs.new_metadata.Goals as goal

pub returns : goal.returns
returns c =
    let node : ℕ = c.args.node in
    let made : FormatMount = record {
      mount = record { key = c.self.inside.ring; salt = c.self.inside.salt; random = c.self.inside.source; names_coded = c.self.inside.names_coded; meta_place = c.self.inside.meta_place };
      signature = c.self.inside.signature_fits;
      salt = c.self.inside.salt_fits;
    } in
    let view : made ≡ c.args.self.now = c.self.view_is in
    let ours : c.signature.result ≡ made.mount.key.signature = cc in
    let kek : c.kek.result.now ≡ made.mount.key.key = cc in
    let key : c.args.fek.now ≡ new_key made.mount node = c.requires ∙ ap (λ (f : FormatMount). new_key f.mount node) (sym view) in
    let wrapped : c.wrap.result ≡ wrapped_key made.mount.key.key (new_key made.mount node) =
    wrapped_is c.kek.result.now c.wrap.result c.args.fek.now (omega arith) c.wrap.ensures ∙ (λ t. wrapped_key (kek t) (key t)) in
    let here : c.from_vec.result ≡ new_metadata made.mount.meta_place (header_for made.mount node) =
    c.from_vec.ensures ∙ c.in_ok-write_header.ensures ∙ (λ t. new_metadata made.mount.meta_place (record {
      size = 0;
      mark = c.mark.ensures t;
      flags = c.new_flags.ensures t;
      salt = made.mount.salt;
      key = record { signature = ours t; cipher = 7; wrapped = wrapped t };
    })) in
    subst (λ (f : FormatMount). c.from_vec.result ≡ new_metadata f.mount.meta_place (header_for f.mount node)) view here
