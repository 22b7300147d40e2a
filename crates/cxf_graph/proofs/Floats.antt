-- A document has no float.
use Rattle.std.proofs.Common.{◌≡◌, ◌∙◌, ℕ, List, [], ◌∷◌, false, map, refl, ap, pos, negsuc, Ordering, Less, Equal, Greater}
use Rattle.std.specs.Ordering.{match_ordering}
use Rattle.std.proofs.lemmas.Bool.{or_parts}
use Rattle.serde_json.specs.Data.{Data, Members, no_members, member, put}
use Rattle.serde_json.specs.View.{items_of}
use Rattle.serde_json.specs.Written.{compact_text, has_float, items_have_float, members_have_float}
use Rattle.cxf_graph.specs.declared.graph.Graph.{Graph}
use Rattle.cxf_graph.specs.declared.graph.GraphNode.{GraphNode}
use Rattle.cxf_graph.specs.declared.graph.NodeBody.{NodeBody}
use Rattle.cxf_graph.specs.declared.graph.NodeBody.TheVariants.{Composite, Elementary, Connector, Other}
use Rattle.cxf_graph.specs.declared.graph.Pair.{Pair}
use Rattle.cxf_graph.specs.declared.graph.Given.{Given}
use Rattle.cxf_graph.specs.declared.graph.GivenValue.{GivenValue}
use Rattle.cxf_graph.specs.declared.graph.GivenValue.TheVariants.{Item, List as Listed}
use Rattle.cxf_graph.specs.declared.graph.GivenItem.{GivenItem}
use Rattle.cxf_graph.specs.declared.graph.GivenItem.TheVariants.{Boolean, Integer, Str, Bad}
use Rattle.cxf_graph.specs.Document.{body_members, document, given_members, item_data, node_data, pair_data, reference, unit_member, value_data}

references_plain : (ids : List (List ℕ)) → items_have_float (items_of (map reference ids)) ≡ false
references_plain [] = refl
references_plain (id ∷ ids) = references_plain ids

pairs_plain : (ps : List Pair) → items_have_float (items_of (map pair_data ps)) ≡ false
pairs_plain [] = refl
pairs_plain (p ∷ ps) = pairs_plain ps

item_plain : (g : GivenItem) → has_float (item_data g) ≡ false
item_plain (Boolean b) = refl
item_plain (Integer (pos n)) = refl
item_plain (Integer (negsuc n)) = refl
item_plain (Str t) = refl
item_plain Bad = refl

items_plain : (gs : List GivenItem) → items_have_float (items_of (map item_data gs)) ≡ false
items_plain [] = refl
items_plain (g ∷ gs) = rw (item_plain g) (items_plain gs)

value_plain : (v : GivenValue) → has_float (value_data v) ≡ false
value_plain (Item g) = item_plain g
value_plain (Listed gs) = items_plain gs

choice_plain : (o : Ordering) (a b c : Members) → members_have_float a ≡ false → members_have_float b ≡ false → members_have_float c ≡ false → members_have_float (match_ordering o a b c) ≡ false
choice_plain Less a b c p q r = p
choice_plain Equal a b c p q r = q
choice_plain Greater a b c p q r = r

put_plain : (k : List ℕ) (d : Data) (ms : Members) → has_float d ≡ false → members_have_float ms ≡ false → members_have_float (put k d ms) ≡ false
put_plain k d no_members p q = rw p refl
put_plain k d (member l e ms) p q =
    let h = or_parts (has_float e) (members_have_float ms) q in
    choice_plain _ (member k d (member l e ms)) (member l d ms) (member l e (put k d ms)) (rw p q) (rw p h.1) (rw (h.0) (put_plain k d ms p h.1))

given_plain : (ms : Members) (gs : List Given) → members_have_float ms ≡ false → members_have_float (given_members ms gs) ≡ false
given_plain ms [] p = p
given_plain ms (g ∷ gs) p = given_plain (put g.name (value_data g.value) ms) gs (put_plain g.name (value_data g.value) ms (value_plain g.value) p)

unit_plain : (unit : List ℕ) → members_have_float (unit_member unit) ≡ false
unit_plain [] = refl
unit_plain (c ∷ cs) = refl

body_plain : (b : NodeBody) → members_have_float (body_members b) ≡ false
body_plain (Composite connectors instances connections) = rw (pairs_plain connections, references_plain connectors, references_plain instances) refl
body_plain (Elementary kind given connectors) = rw (references_plain connectors, given_plain no_members given refl) refl
body_plain (Connector kind input unit) = unit_plain unit
body_plain Other = refl

nodes_plain : (ns : List GraphNode) → items_have_float (items_of (map node_data ns)) ≡ false
nodes_plain [] = refl
nodes_plain (n ∷ ns) = rw (body_plain n.body) (nodes_plain ns)

document_plain : (g : Graph) → has_float (document g) ≡ false
document_plain g = rw (nodes_plain g.nodes) refl

-- the text of a value that is a document
pub text_of : (g : Graph) (d : Data) (s : List ℕ) → d ≡ document g → (has_float d ≡ false → s ≡ compact_text d) → s ≡ compact_text (document g)
text_of g d s e h = h (ap has_float e ∙ document_plain g) ∙ ap compact_text e
