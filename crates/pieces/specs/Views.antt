-- The four pieces that the code is lent for reading, as bytes. Definitions only.
use Rattle.trees.specs.Pieces as trees
use Rattle.pieces.specs.declared.Pieces.{Pieces}

abbrev pub seen : Pieces → trees.Pieces
seen s = trees.pieces s.head.now s.nodes.now s.links.now s.points.now
