-- `octaves::octaves` meets its contract: each return follows from the range of its arm.
use native.Mathlib.Omega.{arith}
use Rattle.std.proofs.lemmas.Bool.Decides.{nat_tests}
use Rattle.pyramid.specs.Pyramid.{octaves_of}
use Rattle.pyramid.proofs.octaves.octaves.Goals as goal

pub returns-in-0-to-9 : goal.returns-in-0-to-9
unfolding octaves_of
returns-in-0-to-9 c = grind (arith, nat_tests)

pub returns-in-10-to-64 : goal.returns-in-10-to-64
unfolding octaves_of
returns-in-10-to-64 c = grind (arith, nat_tests)

pub returns-in-65-to-128 : goal.returns-in-65-to-128
unfolding octaves_of
returns-in-65-to-128 c = grind (arith, nat_tests)

pub returns-in-129-to-256 : goal.returns-in-129-to-256
unfolding octaves_of
returns-in-129-to-256 c = grind (arith, nat_tests)

pub returns-in-257-to-512 : goal.returns-in-257-to-512
unfolding octaves_of
returns-in-257-to-512 c = grind (arith, nat_tests)

pub returns-in-513-to-1024 : goal.returns-in-513-to-1024
unfolding octaves_of
returns-in-513-to-1024 c = grind (arith, nat_tests)

pub returns-in_default : goal.returns-in_default
unfolding octaves_of
returns-in_default c = grind (arith, nat_tests)
