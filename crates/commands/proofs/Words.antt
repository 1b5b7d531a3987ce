-- The program of each tree has the kind and the word of document 01. Assumes nothing.
use mathlib.Core.Path.{◌≡◌, refl}
use Rattle.model.specs.Calls.{octree, quadtree}
use Rattle.record.specs.Commands.{word_oct, word_quad}
use Rattle.tree.specs.contracts.plane.RectangleTree.TheImpl as plane
use Rattle.tree.specs.contracts.space.CubeTree.TheImpl as space
use Rattle.commands.specs.contracts.RectangleProgram.TheImpl as rectangle
use Rattle.commands.specs.contracts.CubeProgram.TheImpl as cube

pub word_of_rectangle : (plane.ghosts.kind ≡ quadtree) × (rectangle.ghosts.made ≡ word_quad)
word_of_rectangle = (refl, refl)

pub word_of_cube : (space.ghosts.kind ≡ octree) × (cube.ghosts.made ≡ word_oct)
word_of_cube = (refl, refl)
