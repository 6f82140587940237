-- `found_told` meets its contract.
use Rattle.face_partner.specs.Face.{found_told}
use borrow.Author.Rules.{rules}
use Rattle.face_partner.proofs.found_told.Goals as goal

pub returns-in-Yes : goal.returns-in-Yes
unfolding found_told
returns-in-Yes c = rw c.in-Yes.is

pub returns-in-Extra : goal.returns-in-Extra
unfolding found_told
returns-in-Extra c = rw c.in-Extra.is

pub returns-in-Absent : goal.returns-in-Absent
unfolding found_told
returns-in-Absent c = rw c.in-Absent.is

pub returns-in-Different : goal.returns-in-Different
unfolding found_told
returns-in-Different c = rw c.in-Different.is
