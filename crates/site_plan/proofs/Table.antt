-- The examples of document 01 that are marked P, by computation on the definitions. Assumes nothing.
use mathlib.Core.Path.{◌≡◌, refl}
use mathlib.Core.List.{flatten, zip_with}
use lib.Ieee.{add, sub, mul, div, neg, le, lt, eq, is_nan, of_bits, to_bits}
use Rattle.floats.specs.Next.{next_up}
use Rattle.floats.specs.Span.{span, lengthened, short}
use Rattle.model.specs.Boxes.{far, on_each, holds, inside, touches, meets, same_place, mid, turn, route, half, part, added_to, added, difference_sq, squared, axis_distance, axis_sq, node_distance, bounded, acceptable}
use Rattle.model.specs.Trees.{same, bag, undivided, held, count, total, nodes, into, into_each, insert, without, joined, every, merge, delete, some?, contains}
use Rattle.model.specs.Searches.{keep, near, radius, within, box, less, place, place_each, children, visit, worst, offer, offer_each, entry, nearest}
use Rattle.model.specs.Calls.{number, create, insert_call, bulk_call, delete_call, search_call, ask, call, on_broken, step}
use Rattle.model.specs.History.{run}
use Rattle.site_plan.specs.Examples.{after, payloads, gives, shape, child, quadrant, many, filling, holding, full, given, said}

-- "512 held": what 512 inserts leave
pub full_reached : after 512 (filling 512) ≡ full
unfolding filling after payloads gives shape child quadrant many holding full run number create insert_call bulk_call delete_call search_call ask call on_broken step keep near radius within box less place place_each children visit worst offer offer_each entry nearest same bag undivided held count total nodes into into_each insert without joined every merge delete some? contains far on_each holds inside touches meets same_place mid turn route half part added_to added difference_sq squared axis_distance axis_sq node_distance bounded acceptable span lengthened short next_up flatten zip_with add sub mul div neg le lt eq is_nan of_bits to_bits
full_reached = refl

pub examples : given ≡ said
unfolding given said after payloads gives shape child quadrant many holding full run number create insert_call bulk_call delete_call search_call ask call on_broken step keep near radius within box less place place_each children visit worst offer offer_each entry nearest same bag undivided held count total nodes into into_each insert without joined every merge delete some? contains far on_each holds inside touches meets same_place mid turn route half part added_to added difference_sq squared axis_distance axis_sq node_distance bounded acceptable span lengthened short next_up flatten zip_with add sub mul div neg le lt eq is_nan of_bits to_bits
examples = refl
