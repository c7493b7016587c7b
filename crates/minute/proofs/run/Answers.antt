-- `minute::run` meets its contract. Assumes nothing.
use mathlib.Core.Path.{◌≡◌, refl, ap, ◌∙◌}
use borrow.Author.Tests.{eq-eqb, ne_eqb}
use Rattle.base.specs.Choose.{choose}
use Rattle.base.specs.Loop.{listed, stored}
use Rattle.logs.specs.Logs.{event_at, log_word, events_by}
use Rattle.minute_state.specs.Minute.{MinuteLent, State, lent_seen, minute, lines_as_numbers}
use Rattle.minute_state.specs.Turns.{Minute, minute_of}
use Rattle.minute.proofs.Ends.{ended, going, from_start}
use Rattle.minute.proofs.run.Goals as goal

pub returns-then-is_err : goal.returns-then-is_err
unfolding minute lines_as_numbers stored choose
returns-then-is_err c =
    let e = ended _ _ c.is_err.ensures.value c.if-is_err.true in
    let kept = rw (← c.start-started.ensures.value, ne_eqb _ _ e) at c.start-started.ensures.words_after in
    rw (← c.start-started.ensures.value, ne_eqb _ _ e) record { value = c.begin-begun.ensures; words_after = kept; feet_after = refl }

pub play-requires : goal.play-requires
play-requires c =
    record {
      ticks_value = ap (λ (m : Minute). m.ticks) c.begin-begun.ensures;
      refusal_value = ap (λ (m : Minute). m.refusal) c.begin-begun.ensures ∙ going _ _ c.is_err.ensures.value c.if-is_err.false;
    }

pub returns : goal.returns
unfolding minute events_by choose
returns c =
    let a = c.args in
    let l : MinuteLent = lent_seen a.lent in
    let z = going _ _ c.is_err.ensures.value c.if-is_err.false in
    let begun = rw z at c.begin-begun.ensures in
    let put = rw (← c.start-started.ensures.value, eq-eqb _ _ z) at c.start-started.ensures.words_after in
    let same = from_start l (listed (event_at (log_word a.file.now a.log.scene a.log.blocks)) a.log.events 0) a.given a.age _ _ _ begun put in
    rw (← c.start-started.ensures.value, eq-eqb _ _ z) record {
      value = c.play.ensures.value ∙ ap minute_of same;
      words_after = c.play.ensures.words_after ∙ ap (λ (s : State). s.words) same;
      feet_after = c.play.ensures.feet_after ∙ ap (λ (s : State). stored a.feet.now 0 (lines_as_numbers s.lines)) same;
    }
