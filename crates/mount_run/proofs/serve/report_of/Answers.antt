use Rattle.std.proofs.Common.{refl}
use Rattle.served_model.specs.declared.end.ReportEnd.TheVariants.{Image, Stuck}
use Rattle.mount_run.proofs.serve.report_of.Goals as goal

pub returns-in-Image : goal.returns-in-Image
returns-in-Image g c = record {
  end = Image c.in-Image.image;
  taken_down = rw c.in-Image.is at c.in_ok-end.ensures;
  is_report = λ log logs. (let text = c.in_ok-text.ensures log (rw c.deref-2.ensures.value logs) in (rw (c.deref.ensures.value, c.in-Image.is) at text, refl));
}

pub returns : goal.returns
returns g c = record {
  end = Stuck c.in-Stuck.part c.in-Stuck.before c.in-Stuck.after;
  taken_down = rw c.in-Stuck.is at c.in_ok-end.ensures;
  is_report = λ log logs. (let text = c.in_ok-text.ensures log (rw c.deref-2.ensures.value logs) in rw (c.deref.ensures.value, c.in-Stuck.is) at text);
}
