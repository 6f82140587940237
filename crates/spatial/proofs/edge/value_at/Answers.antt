-- `edge::value_at` meets its contract.
use Rattle.spatial.specs.Edge.{value_of}
use mathlib.Core.Path.{refl}
use Rattle.spatial.proofs.edge.value_at.Goals as goal

-- index-1-result : tie.Need-bounds-1-result
-- index-1-result c = search rules

-- index-2-result : tie.Need-bounds-2-result
-- index-2-result c = search rules

-- index-1-result-2 : tie.Need-bounds-1-result-2
-- index-1-result-2 c = search rules

-- index-2-result-2 : tie.Need-bounds-2-result-2
-- index-2-result-2 c = search rules

-- index-1-result-3 : tie.Need-bounds-1-result-3
-- index-1-result-3 c = search rules

-- index-2-result-3 : tie.Need-bounds-2-result-3
-- index-2-result-3 c = search rules

-- index-1-result-4 : tie.Need-bounds-1-result-4
-- index-1-result-4 c = search rules

-- index-2-result-4 : tie.Need-bounds-2-result-4
-- index-2-result-4 c = search rules

pub returns : goal.returns
unfolding value_of
returns c = refl
