use Rattle.std.proofs.Common.{◌≡◌, ℕ, ◌+◌, ◌-◌, ◌++◌, List, Bor, take, drop, length, get_or, arith, ap, sym, ◌∙◌, append_assoc, map, take_all, length-drop, length-take}
use Rattle.session_model.specs.declared.entry.FileEntry.{FileEntry}
use Rattle.served_model.specs.ReportText.{file_text, files_text}
use Rattle.report_text.proofs.NodeRuns.{files_text-from}
use Rattle.report_text.proofs.files.put_files.Goals as goal

pub loop-start-preserved : goal.loop-start-preserved
loop-start-preserved c =
    let entries = c.args.entries.now in
    let start = c.loop-start.start in
    let rest : List (Bor FileEntry) = take (length entries - start) (drop start entries) in
    let first = c.index-rest-0.result in
    let count = c.count_up_to.result in
    let file : List ℕ = file_text (get_or rest 0 first).now.node (map (λ e. e.now) (take count rest)) in
    let others : List ℕ = files_text (map (λ e. e.now) (drop (start + length (take count rest)) entries)) in
    let is : rest ≡ drop start entries = take_all (length entries - start) (drop start entries) (omega (arith, length-drop start entries)) in
    let told = files_text-from entries rest start count first is (omega arith) c.count_up_to.ensures.bound c.requires c.count_up_to.ensures.inside c.count_up_to.ensures.behind in
    record {
      within = omega (arith, length-take count rest, ap length is, length-drop start entries);
      text =
          ap (λ out. out ++ others) c.in_ok-put_file.ensures ∙ append_assoc c.loop-start.out.items file others ∙ ap (λ text. c.loop-start.out.items ++ text) (sym told)
          ∙ c.loop-start.invariant.text;
    }
