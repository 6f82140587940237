-- `list::found` meets its contract.
use Rattle.tile.proofs.ListLaws.{told-holds, told_ok}
use Rattle.tile.proofs.list.found.Goals as goal

pub unwrap-requires : goal.unwrap-requires
unwrap-requires c =
    let a = c.args in
    let d = c.detect in
    told_ok a.set a.th a.h a.w a.octave a.t0.now a.t1.now a.t2.now a.t3.now c.requires.small d.result a.held.now _ d.ensures

pub returns : goal.returns
returns c =
    let a = c.args in
    let d = c.detect in
    told-holds a.set a.th a.h a.w a.octave a.t0.now a.t1.now a.t2.now a.t3.now c.requires.small d.result a.held.now _ _ c.requires.held_len d.ensures c.unwrap.ensures
