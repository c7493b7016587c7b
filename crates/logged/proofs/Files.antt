-- From what the program finds of a file, of its log and of its scene's counts, to the minute of the file. Assumes nothing.
use mathlib.Core.Bool.{Bool, true, false, true≢false}
use mathlib.Core.List.{List}
use mathlib.Core.Path.{◌≡◌, refl, sym, ap, ◌∙◌}
use Prim.Native.Nat.{ℕ}
use lib.ListN.{take}
use Rattle.std.specs.Prelude.{Result, Err}
use Rattle.base.specs.Choose.{choose}
use Rattle.base.specs.Ask.{refused, found}
use Rattle.base.specs.declared.Refusal.{Refusal}
use Rattle.base.specs.Refusals.{number_of, asked}
use Rattle.base.proofs.Cases.{yes, no}
use Rattle.base.proofs.Every.{both}
use Rattle.files.specs.declared.Counts.{Counts}
use Rattle.files.specs.Files.{counts_of, is_scene}
use Rattle.files.specs.Contents.{contents_in, contents_behind}
use Rattle.files.proofs.Scenes.{unfit, are, no-scene}
use Rattle.logs.specs.declared.Log.{Log}
use Rattle.logs.specs.declared.Event.{Event}
use Rattle.logs.specs.Logs.{scene_in, is_log, whole_log, log_of, events_by, events_of, first_of}
use Rattle.logs.proofs.Files.{scene-no-log}
use Rattle.logs.proofs.First.{first-events}
use Rattle.scene.specs.Scene.{malformed as unread, tick_of}
use Rattle.scene.proofs.Refusals.{tick-8}
use Rattle.logged.specs.Logged.{malformed_log, minute_over, minute_in, minute_first}

-- what the program answers with an error, whichever, is refused by 8
pub unfit_file : {A : Type 0} (r : Result A Refusal) (e : Refusal) → r ≡ Err e → (b : Bool) (m : A) → asked r ≡ choose b (found m) (refused 8) → refused 8 ≡ choose b (found m) (refused 8)
unfolding choose
unfit_file r e is true m q = let n : refused (number_of e) ≡ found m = ap asked (sym is) ∙ q in cc
unfit_file r e is false m q = refl

module _ (file : List ℕ) where
  pub no-log : refused 8 ≡ choose (is_log file) (found (log_of file)) (refused 8) → malformed_log ≡ minute_in file
  unfolding minute_in
  no-log e = sym (no (is_log file) (minute_over (contents_in (scene_in file)) (events_of file)) malformed_log (unfit (is_log file) (log_of file) e))

  pub no-first : (n : ℕ) → refused 8 ≡ choose (is_log file) (found (log_of file)) (refused 8) → malformed_log ≡ minute_first file n
  unfolding minute_first
  no-first n e = sym (no (is_log file) (minute_over (contents_in (scene_in file)) (take n (events_of file))) malformed_log (unfit (is_log file) (log_of file) e))

  -- a log has a scene
  log-scene : is_log file ≡ true → is_scene (scene_in file) ≡ true
  unfolding is_log
  log-scene t = (both (is_scene (scene_in file)) (whole_log file (log_of file)) t).one

  module _ (scene : List ℕ) (es : scene ≡ scene_in file) where
    pub no-counts : refused 8 ≡ choose (is_scene scene) (found (counts_of scene)) (refused 8) → is_log file ≡ true → ⊥
    no-counts e t = true≢false (sym (ap is_scene es ∙ log-scene t) ∙ no-scene scene e)

    -- what is run of a scene with these counts
    pub minute-by : (n : Counts) (events : List Event) → counts_of scene ≡ n → minute_over (contents_behind scene n) events ≡ minute_over (contents_in (scene_in file)) events
    minute-by n events en =
        ap (λ (k : Counts). minute_over (contents_behind scene k) events) (sym en)
        ∙ ap (λ (f : List ℕ). minute_over (contents_in f) events) es

  -- of all its events
  pub whole-log : (log : Log) → found log ≡ choose (is_log file) (found (log_of file)) (refused 8) → minute_over (contents_in (scene_in file)) (events_by file log) ≡ minute_in file
  unfolding minute_in
  whole-log log e =
      let a = are (is_log file) log (log_of file) e in
      ap (λ (l : Log). minute_over (contents_in (scene_in file)) (events_by file l)) (sym a.same)
      ∙ sym (yes (is_log file) (minute_over (contents_in (scene_in file)) (events_of file)) malformed_log a.test)

  -- and of the first so many
  pub first-log : (log : Log) (n : ℕ) → found log ≡ choose (is_log file) (found (log_of file)) (refused 8)
      → minute_over (contents_in (scene_in file)) (events_by file (first_of log n)) ≡ minute_first file n
  unfolding minute_first
  first-log log n e =
      let a = are (is_log file) log (log_of file) e in
      ap (λ (l : Log). minute_over (contents_in (scene_in file)) (events_by file (first_of l n))) (sym a.same)
      ∙ ap (λ (es : List Event). minute_over (contents_in (scene_in file)) es) (first-events file (log_of file) n)
      ∙ sym (yes (is_log file) (minute_over (contents_in (scene_in file)) (take n (events_of file))) malformed_log a.test)

  -- ---- a log is no scene, so that its tick is refused by 8

  pub log-8 : is_log file ≡ true → tick_of file ≡ unread
  log-8 t = tick-8 file (go (is_scene file) refl)
    where
      go : (b : Bool) → is_scene file ≡ b → is_scene file ≡ false
      go true e = absurd (true≢false (sym t ∙ scene-no-log file e))
      go false e = e
