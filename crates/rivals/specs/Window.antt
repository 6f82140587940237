-- The window of the lines, of a map's thresholds. Definitions only.
use Rattle.float.specs.Num.{f0}
use Rattle.tables.specs.declared.Thresholds.{Thresholds}
use Rattle.fit.specs.Envelope.{within}
use Rattle.columns.specs.declared.Window.{Window}

abbrev pub window_of : Thresholds → Window
window_of th = record { low = th.low; high = th.high; peak = th.peak; wild = within th.low th.high f0 }
