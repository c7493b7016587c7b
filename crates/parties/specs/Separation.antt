-- The theorem of separation, as a statement about values: no change to the other party's windows and bodies, counts included, nor to the other
-- half, alters what this party is told, its answers or its half. proofs/Separation.antt has its proof.
use Rattle.std.specs.Prelude.{◌≡◌, length}
use Rattle.parties.specs.Parties.{Call, Who, party_of, half_of, call_refusals, call_written, told_to, answers_for}

-- Two calls that agree in the tables, in the buffer's length and this half's contents, and in this party's windows and bodies. Of the other party
-- nothing is said: they may differ in all of it.
pub record Agree (who : Who) (a b : Call) : Type 0 where
  pub records : a.records ≡ b.records
  pub shapes : a.shapes ≡ b.shapes
  pub room : length a.out ≡ length b.out
  pub half : half_of who a.out ≡ half_of who b.out
  pub party : party_of who a ≡ party_of who b

-- What is then the same: the refusal, the answers row by row, and the half of the buffer after the call.
pub record Unaltered (who : Who) (a b : Call) : Type 0 where
  pub refusal : told_to who (call_refusals a) ≡ told_to who (call_refusals b)
  pub answers : answers_for who a (call_written a) ≡ answers_for who b (call_written b)
  pub half : half_of who (call_written a) ≡ half_of who (call_written b)

abbrev pub Separation : Type 0
Separation = (who : Who) (a b : Call) → Agree who a b → Unaltered who a b
