-- The other site-plan examples, by computation on the definitions: deep trees, and the limit on nodes. Assumes nothing.
use mathlib.Core.Path.{◌≡◌, refl}
use mathlib.Core.List.{[], ◌∷◌, ◌++◌, flatten, zip_with}
use lib.Ieee.{add, sub, mul, div, neg, le, lt, eq, is_nan, of_bits, to_bits}
use Rattle.floats.specs.Next.{next_up}
use Rattle.floats.specs.Span.{span, lengthened, short}
use Rattle.model.specs.Boxes.{far, on_each, holds, inside, touches, meets, same_place, mid, turn, route, half, part, added_to, added, difference_sq, squared, axis_distance, axis_sq, node_distance, bounded, acceptable}
use Rattle.model.specs.Trees.{same, bag, undivided, held, count, total, nodes, into, into_each, insert, without, joined, every, merge, delete, some?, contains}
use Rattle.model.specs.Searches.{keep, near, radius, within, box, less, place, place_each, children, visit, worst, offer, offer_each, entry, nearest}
use Rattle.model.specs.Calls.{Insert, Delete, number, create, insert_call, bulk_call, delete_call, search_call, ask, call, on_broken, step}
use Rattle.model.specs.History.{run}
use Rattle.site_plan.specs.Examples.{one, four, five, eight, point, point3, cube, twins, pairs, after, after3, payloads, answer, gives, shape, child, quadrant, many, holding, full}

-- "Capacity 1, two equal points: 129 nodes, both at depth 32."
pub two_equal : shape (after 1 twins) ≡ 129 ∷ 1 ∷ 2 ∷ []
unfolding after3 after payloads gives shape child quadrant many holding full run number create insert_call bulk_call delete_call search_call ask call on_broken step keep near radius within box less place place_each children visit worst offer offer_each entry nearest same bag undivided held count total nodes into into_each insert without joined every merge delete some? contains far on_each holds inside touches meets same_place mid turn route half part added_to added difference_sq squared axis_distance axis_sq node_distance bounded acceptable span lengthened short next_up flatten zip_with add sub mul div neg le lt eq is_nan of_bits to_bits
two_equal = refl

-- "A third: 129 still."
pub third_equal : shape (after 1 (twins ++ (Insert (point one one 3) ∷ []))) ≡ 129 ∷ 1 ∷ 2 ∷ 3 ∷ []
unfolding after3 after payloads gives shape child quadrant many holding full run number create insert_call bulk_call delete_call search_call ask call on_broken step keep near radius within box less place place_each children visit worst offer offer_each entry nearest same bag undivided held count total nodes into into_each insert without joined every merge delete some? contains far on_each holds inside touches meets same_place mid turn route half part added_to added difference_sq squared axis_distance axis_sq node_distance bounded acceptable span lengthened short next_up flatten zip_with add sub mul div neg le lt eq is_nan of_bits to_bits
third_equal = refl

-- "Deleting down to one: 1 node."
pub back_to_one : shape (after 1 (twins ++ (Delete (point one one 1) ∷ []))) ≡ 1 ∷ 2 ∷ []
unfolding after3 after payloads gives shape child quadrant many holding full run number create insert_call bulk_call delete_call search_call ask call on_broken step keep near radius within box less place place_each children visit worst offer offer_each entry nearest same bag undivided held count total nodes into into_each insert without joined every merge delete some? contains far on_each holds inside touches meets same_place mid turn route half part added_to added difference_sq squared axis_distance axis_sq node_distance bounded acceptable span lengthened short next_up flatten zip_with add sub mul div neg le lt eq is_nan of_bits to_bits
back_to_one = refl

-- "Capacity 1, two points at (1,1), two at (5,5): 253 nodes."
pub two_pairs : shape (after 1 pairs) ≡ 253 ∷ 1 ∷ 2 ∷ 3 ∷ 4 ∷ []
unfolding after3 after payloads gives shape child quadrant many holding full run number create insert_call bulk_call delete_call search_call ask call on_broken step keep near radius within box less place place_each children visit worst offer offer_each entry nearest same bag undivided held count total nodes into into_each insert without joined every merge delete some? contains far on_each holds inside touches meets same_place mid turn route half part added_to added difference_sq squared axis_distance axis_sq node_distance bounded acceptable span lengthened short next_up flatten zip_with add sub mul div neg le lt eq is_nan of_bits to_bits
two_pairs = refl

-- "First (5,1): accepted."
pub first_accepted : gives (after 1 pairs) (Insert (point five one 5)) ≡ answer 0 0 []
unfolding after3 after payloads gives shape child quadrant many holding full run number create insert_call bulk_call delete_call search_call ask call on_broken step keep near radius within box less place place_each children visit worst offer offer_each entry nearest same bag undivided held count total nodes into into_each insert without joined every merge delete some? contains far on_each holds inside touches meets same_place mid turn route half part added_to added difference_sq squared axis_distance axis_sq node_distance bounded acceptable span lengthened short next_up flatten zip_with add sub mul div neg le lt eq is_nan of_bits to_bits
first_accepted = refl

-- "Second: 377 nodes wanted, so 6."
pub second_refused : gives (after 1 (pairs ++ (Insert (point five one 5) ∷ []))) (Insert (point five one 6)) ≡ answer 6 0 []
unfolding after3 after payloads gives shape child quadrant many holding full run number create insert_call bulk_call delete_call search_call ask call on_broken step keep near radius within box less place place_each children visit worst offer offer_each entry nearest same bag undivided held count total nodes into into_each insert without joined every merge delete some? contains far on_each holds inside touches meets same_place mid turn route half part added_to added difference_sq squared axis_distance axis_sq node_distance bounded acceptable span lengthened short next_up flatten zip_with add sub mul div neg le lt eq is_nan of_bits to_bits
second_refused = refl

-- "Delete one of (5,5), repeat: accepted, 253."
pub room_again : shape (after 1 (pairs ++ (Insert (point five one 5) ∷ Delete (point five five 3) ∷ Insert (point five one 6) ∷ []))) ≡ 253 ∷ 1 ∷ 2 ∷ 5 ∷ 6 ∷ 4 ∷ []
unfolding after3 after payloads gives shape child quadrant many holding full run number create insert_call bulk_call delete_call search_call ask call on_broken step keep near radius within box less place place_each children visit worst offer offer_each entry nearest same bag undivided held count total nodes into into_each insert without joined every merge delete some? contains far on_each holds inside touches meets same_place mid turn route half part added_to added difference_sq squared axis_distance axis_sq node_distance bounded acceptable span lengthened short next_up flatten zip_with add sub mul div neg le lt eq is_nan of_bits to_bits
room_again = refl

-- "Octree, two equal points: 257."
pub octree_two_equal : shape (after3 1 (Insert (point3 one 1) ∷ Insert (point3 one 2) ∷ [])) ≡ 257 ∷ 1 ∷ 2 ∷ []
unfolding after3 after payloads gives shape child quadrant many holding full run number create insert_call bulk_call delete_call search_call ask call on_broken step keep near radius within box less place place_each children visit worst offer offer_each entry nearest same bag undivided held count total nodes into into_each insert without joined every merge delete some? contains far on_each holds inside touches meets same_place mid turn route half part added_to added difference_sq squared axis_distance axis_sq node_distance bounded acceptable span lengthened short next_up flatten zip_with add sub mul div neg le lt eq is_nan of_bits to_bits
octree_two_equal = refl

-- "Octree (0,0,0,8,8,8): (4,4,4) routes to child 7."
pub octree_route : route cube (point3 four 1).at ≡ 7
unfolding after3 after payloads gives shape child quadrant many holding full run number create insert_call bulk_call delete_call search_call ask call on_broken step keep near radius within box less place place_each children visit worst offer offer_each entry nearest same bag undivided held count total nodes into into_each insert without joined every merge delete some? contains far on_each holds inside touches meets same_place mid turn route half part added_to added difference_sq squared axis_distance axis_sq node_distance bounded acceptable span lengthened short next_up flatten zip_with add sub mul div neg le lt eq is_nan of_bits to_bits
octree_route = refl

-- "5 | insert, bulk: 512 points already held": the 512th is accepted
pub last_place : gives (holding 511) (Insert (point eight eight 511)) ≡ answer 0 0 []
unfolding after3 after payloads gives shape child quadrant many holding full run number create insert_call bulk_call delete_call search_call ask call on_broken step keep near radius within box less place place_each children visit worst offer offer_each entry nearest same bag undivided held count total nodes into into_each insert without joined every merge delete some? contains far on_each holds inside touches meets same_place mid turn route half part added_to added difference_sq squared axis_distance axis_sq node_distance bounded acceptable span lengthened short next_up flatten zip_with add sub mul div neg le lt eq is_nan of_bits to_bits
last_place = refl
