-- A log, written behind a scene and then read. Document 02's words stand in quotes.
use Rattle.std.specs.Prelude.{true, List, ◌≡◌, ℕ, ◌<◌, length, get_or, take, drop}
use Rattle.files.specs.Contents.{Contents, contents_in}
use Rattle.writer.specs.Contents.{as_written}
use Rattle.writer.specs.Written.{scene_refusal, written_scene}
use Rattle.rounds.specs.Rounds.{Typed}
use Rattle.logs.specs.Logs.{scene_in, is_log, events_of}
use Rattle.log_writer.specs.Written.{lent_events, log_refusal, written_log, log_answer}

-- the bytes of scene and log
abbrev pub log_file : List ℕ → List ℕ → List ℕ
log_file out events = take (log_answer out events).bytes (written_log out events)

-- the file is a log: it holds the scene that the buffer began with, and the events that were lent; bytes past it keep their values
pub record LogReadsBack (out events : List ℕ) : Type 0 where
  pub log : is_log (log_file out events) ≡ true
  pub scene : scene_in (log_file out events) ≡ scene_in out
  pub same : events_of (log_file out events) ≡ lent_events events
  pub past : drop (log_answer out events).bytes (written_log out events) ≡ drop (log_answer out events).bytes out

-- words of 32 bits
abbrev pub Words : List ℕ → Type 0
Words events = (i : ℕ) → get_or events i 0 < 4294967296

-- whatever the buffer begins with
abbrev pub LoggedThenRead : Type 0
LoggedThenRead = (out events : List ℕ) → Words events → log_refusal out events ≡ 0 → LogReadsBack out events

-- "a scene, then blocks of kind 6": a scene that was written, and the log behind it, hold what was handed over
abbrev pub MinuteThenRead : Type 0
MinuteThenRead = (out : List ℕ) (c : Contents) (events : List ℕ) → Typed c → Words events → scene_refusal c (length out) ≡ 0
    → log_refusal (written_scene out c) events ≡ 0 → contents_in (scene_in (log_file (written_scene out c) events)) ≡ as_written c
