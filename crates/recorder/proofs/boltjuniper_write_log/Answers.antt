-- `recorder::boltjuniper_write_log` meets its contract. Assumes nothing.
use mathlib.Core.Path.{ap, ◌∙◌}
use Rattle.recorder.specs.Answers.{bytes_or_refusal}
use Rattle.recorder.proofs.boltjuniper_write_log.Goals as goal

pub returns : goal.returns
returns c =
    record { value = c.bytes_or_refusal.ensures ∙ ap bytes_or_refusal c.write_log.ensures.value; out_after = c.write_log.ensures.out_after }
