-- How the graph that a document gives stands to the one that was written.
use Rattle.std.specs.Prelude.{◌≡◌, FitsSigned, List, [], ◌∷◌, All}
use Rattle.std.specs.Int.{w64}
use Rattle.std.specs.Ordering.{nat_cmp}
use Rattle.std.specs.Cmp.Lexicographic.{slice_cmp}
use Rattle.std.specs.declared.cmp.Ordering.TheVariants.{Less}
use Rattle.cdl_network.specs.Lists.{In, Lists}
use Rattle.cxf_graph.specs.declared.graph.GraphNode.{GraphNode}
use Rattle.cxf_graph.specs.declared.graph.NodeBody.{NodeBody}
use Rattle.cxf_graph.specs.declared.graph.NodeBody.TheVariants.{Composite, Elementary, Connector, Other}
use Rattle.cxf_graph.specs.declared.graph.Given.{Given}
use Rattle.cxf_graph.specs.declared.graph.GivenValue.{GivenValue}
use Rattle.cxf_graph.specs.declared.graph.GivenValue.TheVariants.{Item, List as Listed}
use Rattle.cxf_graph.specs.declared.graph.GivenItem.{GivenItem}
use Rattle.cxf_graph.specs.declared.graph.GivenItem.TheVariants.{Boolean, Integer, Str, Bad}

-- the item is one, and an Integer is of 64 bits
abbrev pub IsPlainItem : GivenItem → Type 0
IsPlainItem (Boolean b) = Unit {0}
IsPlainItem (Integer z) = FitsSigned w64 z
IsPlainItem (Str t) = Unit {0}
IsPlainItem Bad = ⊥

abbrev pub IsPlainValue : GivenValue → Type 0
IsPlainValue (Item g) = IsPlainItem g
IsPlainValue (Listed gs) = All IsPlainItem gs

-- the name comes first, byte by byte
abbrev pub IsBefore : Given → Given → Type 0
IsBefore g h = slice_cmp nat_cmp g.name h.name ≡ Less

-- the same body, but for the parameters of a block: they are the same, in byte order of their names
abbrev pub IsOrdered : NodeBody → NodeBody → Type 0
IsOrdered (Elementary kind given connectors) b = (ordered : List Given) × Lists IsBefore (λ g. In g given) ordered × (b ≡ Elementary kind ordered connectors)
IsOrdered (Composite connectors instances connections) b = b ≡ Composite connectors instances connections
IsOrdered (Connector kind input unit) b = b ≡ Connector kind input unit
IsOrdered Other b = b ≡ Other

-- the same nodes, each with the parameters of a block in byte order of their names
abbrev pub AreOrdered : List GraphNode → List GraphNode → Type 0
AreOrdered [] [] = Unit {0}
AreOrdered (n ∷ ns) (m ∷ ms) = (m.id ≡ n.id) × IsOrdered n.body m.body × AreOrdered ns ms
AreOrdered _ _ = ⊥
