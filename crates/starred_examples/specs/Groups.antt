-- Groups (document 02, request 6): document 01's whole case with a group equal to each node, and two arms that start from one pulse: in
-- one group their frames never meet, and both claims are certified; where each starts by itself they meet, and the second is too small.
use Rattle.std.specs.Prelude.{ℕ, ◌≡◌, refl, List, [], ◌∷◌, pos, negsuc}
use Rattle.table_checks.proofs.Laws.Ungrouped.{widened}
use Rattle.starred_examples.specs.Compute.{everything}
use Rattle.starred_examples.specs.Cases.{listing, Case, judged, checked, Holds, AllHold, numbers}

-- ---- document 01's whole case

-- as it stands there, without groups
abbrev pub document_case : List ℕ
document_case =
    1 ∷ 16 ∷ 11 ∷ 8 ∷ 1000 ∷ 0 ∷ 300
    ∷ 1 ∷ 32 ∷ 11 ∷ 0 ∷ 1000 ∷ 200 ∷ 189
    ∷ 1 ∷ 48 ∷ 11 ∷ 8 ∷ 1000 ∷ 300 ∷ 198
    ∷ 2 ∷ 64 ∷ 11 ∷ 1 ∷ 1000 ∷ 0 ∷ 200
    ∷ []

-- Each node a group of its own, it is the one of the examples.
pub case-widened : widened document_case ≡ listing
unfolding widened everything
case-widened = refl

-- ---- the arms

-- frames 16 and 32 of nodes 1 and 2, and frame 64 below them; the groups of the three nodes
abbrev pub arms : ℕ → ℕ → ℕ → List ℕ
arms a b c =
    1 ∷ a ∷ 16 ∷ 11 ∷ 8 ∷ 1000 ∷ 0 ∷ 300
    ∷ 2 ∷ b ∷ 32 ∷ 11 ∷ 8 ∷ 1000 ∷ 300 ∷ 300
    ∷ 3 ∷ c ∷ 64 ∷ 11 ∷ 8 ∷ 1000 ∷ 0 ∷ 300
    ∷ []

-- a line of period 100 and claim 1000, by node, group and identifier, before others
abbrev pub line_with : ℕ → ℕ → ℕ → List ℕ → List ℕ
line_with node group identifier rest = node ∷ group ∷ identifier ∷ 11 ∷ 0 ∷ 100 ∷ 0 ∷ 1000 ∷ rest

-- a line of node 1 and one of node 2, by their groups and periods
abbrev pub periods : ℕ → ℕ → ℕ → ℕ → List ℕ
periods a b p q = 1 ∷ a ∷ 0 ∷ 11 ∷ 0 ∷ p ∷ 0 ∷ 1000 ∷ 2 ∷ b ∷ 1 ∷ 11 ∷ 0 ∷ q ∷ 0 ∷ 1000 ∷ []

-- together and apart; a node in a second group: 15 at its line, after 5 there and before 4 on the next line; two nodes in one group;
-- periods that are too much for one group, 6 and 7 at the group, and not for two
unfoldable pub group_cases : List Case
group_cases =
    judged (arms 1 1 2) 0 300 1 269 (pos 31)
    ∷ judged (arms 1 1 2) 1 300 1 269 (pos 31)
    ∷ judged (arms 1 1 2) 2 300 1 270 (pos 30)
    ∷ judged (arms 1 2 3) 1 300 3 404 (negsuc 103)
    ∷ judged (arms 1 2 3) 2 300 3 405 (negsuc 104)
    ∷ checked (arms 1 1 2) 0 0
    ∷ checked (line_with 1 1 0 (line_with 1 2 1 [])) 15 2
    ∷ checked (line_with 1 1 0 (line_with 1 2 0 [])) 5 2
    ∷ checked (line_with 1 1 0 (line_with 1 2 1 (line_with 17 1 2 []))) 15 2
    ∷ checked (line_with 1 1 0 (line_with 2 1 1 [])) 0 0
    ∷ checked (periods 3 3 1000 1001) 6 3
    ∷ checked (periods 3 4 1000 1001) 0 0
    ∷ checked (periods 3 3 1 256) 7 3
    ∷ checked (periods 3 4 1 256) 0 0
    ∷ []

pub groups-hold : AllHold group_cases
unfolding group_cases AllHold Holds numbers everything
groups-hold = (refl, (refl, (refl, (refl, (refl, (refl, (refl, (refl, (refl, (refl, (refl, (refl, (refl, (refl, tt))))))))))))))
