-- P1 to P12 of document 01, "Trials at the edges", as one list about the book's definitions; the surveys of its images (document 02, Ticket 1); what
-- reading says of damaged ones (Ticket 2); the nine suffix masks (Ticket 4); lookups around a failed node (Ticket 6); traces (Ticket 8); and tables filled (Ticket 10).
use Rattle.std.specs.Prelude.{ℕ, ◌+◌, ◌^◌, ◌≡◌, List, [], ◌∷◌, replicate}
use Rattle.model.specs.Ids.{common_suffix, suffix_mask}
use Rattle.model.specs.Memory.{Memory, state_length, tables_length}
use Rattle.model.specs.Calls.{Outcome, found_call, read_call, lookup_call, survey_call, verdict_call, fill_call, trace_call}

-- lent memory with old contents in every place
unfoldable pub dirty : Memory
dirty = record { state = replicate state_length 9; tables = replicate tables_length 9 }

-- founding on that memory: base, digits, depth, id
unfoldable pub founding : ℕ → ℕ → ℕ → ℕ → Outcome
founding b d K id = found_call dirty b d K id

-- reading an image into that memory
unfoldable pub reading : List ℕ → Outcome
reading im = read_call dirty im

-- the verdict, the lookup, the survey, the check of a trace and the filling on what a call left
unfoldable pub verdict_on : Outcome → List ℕ
verdict_on o = (verdict_call o.memory).answer

unfoldable pub lookup_on : Outcome → ℕ → ℕ → ℕ → List ℕ
lookup_on o u z failed = (lookup_call o.memory u z failed).answer

unfoldable pub survey_on : Outcome → List ℕ
survey_on o = (survey_call o.memory 0).answer

unfoldable pub trace_on : Outcome → List ℕ → List ℕ
trace_on o trace = (trace_call o.memory trace).answer

unfoldable pub fill_on : Outcome → List ℕ → Outcome
fill_on o out = fill_call o.memory out

-- the first sixteen bytes of E1 with this record count, before the records
unfoldable pub head_of_e1 : ℕ → List ℕ → List ℕ
head_of_e1 count records = 4 ∷ 1 ∷ 2 ∷ 2 ∷ 1 ∷ 2 ∷ 0 ∷ 0 ∷ 0 ∷ 0 ∷ 1 ∷ 0 ∷ 0 ∷ 0 ∷ count ∷ 0 ∷ records

-- a record before others: node, level, digit, neighbour
unfoldable pub rec : ℕ → ℕ → ℕ → ℕ → List ℕ → List ℕ
rec x i j u records = x ∷ i ∷ j ∷ u ∷ records

-- image E1, forty bytes
unfoldable pub e1 : List ℕ
unfolding head_of_e1 rec
e1 = head_of_e1 6 (rec 1 0 0 1 (rec 1 0 1 2 (rec 1 1 0 1 (rec 2 0 0 1 (rec 2 0 1 2 (rec 2 1 0 2 []))))))

-- E1 with its second record left out, and so with a record count of 5
unfoldable pub e1_short : List ℕ
unfolding head_of_e1 rec
e1_short = head_of_e1 5 (rec 1 0 0 1 (rec 1 1 0 1 (rec 2 0 0 1 (rec 2 0 1 2 (rec 2 1 0 2 [])))))

-- three nodes, 00, 01 and 10, with these records, six unless one is left out
unfoldable pub three : ℕ → List ℕ → List ℕ
three count records =
    4 ∷ 1 ∷ 2 ∷ 2 ∷ 1 ∷ 3 ∷ 0 ∷ 0 ∷ 0 ∷ 0 ∷ 1 ∷ 0 ∷ 0 ∷ 0 ∷ 16 ∷ 0 ∷ 0 ∷ 0 ∷ count ∷ 0 ∷ records

-- three nodes, 00, 01 and 11, with K 2: so many records, of which the first is node 1's for digit 0 and the last ten are those of level 1 of node 1 and of
-- nodes 2 and 3
unfoldable pub deep_with : ℕ → (List ℕ → List ℕ) → List ℕ
unfolding rec
deep_with count entry =
    4 ∷ 1 ∷ 2 ∷ 2 ∷ 2 ∷ 3 ∷ 0 ∷ 0 ∷ 0 ∷ 0 ∷ 1 ∷ 0 ∷ 0 ∷ 0 ∷ 17 ∷ 0 ∷ 0 ∷ 0 ∷ count ∷ 0
    ∷ rec 1 0 0 1 (entry (rec 1 1 0 1
    (rec 2 0 0 1 (rec 2 0 1 2 (rec 2 0 1 3 (rec 2 1 0 2 (rec 2 1 1 3
    (rec 3 0 0 1 (rec 3 0 1 3 (rec 3 0 1 2 (rec 3 1 0 2 (rec 3 1 1 3 []))))))))))))

-- the entry of node 1 for digit 1 holds node 2 and behind it node 3
unfoldable pub deep : List ℕ
unfolding rec deep_with
deep = deep_with 14 (λ more. rec 1 0 1 2 (rec 1 0 1 3 more))

-- The list. An answer is the refusal and then the call's fields.
pub record Worked : Type 0 where
  -- b 8, d 5: the common suffix of 10261 and five ids. Excluded: counting digits from the left (P1 would be 1, P4 2); counting every equal
  -- digit, also past one that differs (P1 would be 4, P4 2); no cap at d (P5 would be 8).
  pub p1 : common_suffix 5 0x10261 0x11261 ≡ 3
  pub p2 : common_suffix 5 0x10261 0x13061 ≡ 2
  pub p3 : common_suffix 5 0x10261 0x31701 ≡ 1
  pub p4 : common_suffix 5 0x10261 0x10353 ≡ 0
  pub p5 : common_suffix 5 0x10261 0x10261 ≡ 5
  -- One founded node passes. Excluded: a founding that leaves old contents in some place or writes no own entry (the verdict would
  -- refuse it by 2); a count H without the owner in a verdict that compares exactly (each own entry would hold
  -- more than it must: a no).
  pub p6 : verdict_on (founding 8 5 2 0x10261) ≡ 0 ∷ 1 ∷ 0 ∷ 0 ∷ 0 ∷ []
  -- E1 passes. Excluded: a reading that refuses E1, as one with digits from the left does (by 10), that drops a record or that leaves
  -- old contents in some place; a verdict that is always no.
  pub p7 : verdict_on (reading e1) ≡ 0 ∷ 1 ∷ 0 ∷ 0 ∷ 0 ∷ []
  -- E1 without a record falls short where the record was. Excluded: a verdict that is always yes; one that gives the level
  -- before the node, or numbers nodes from 0.
  pub p8 : verdict_on (reading e1_short) ≡ 0 ∷ 0 ∷ 1 ∷ 0 ∷ 1 ∷ []
  -- Excluded: a lookup that always arrives; one that counts a hop where it takes none; one that asks the destination's table.
  pub p9 : lookup_on (reading e1_short) 1 2 0 ≡ 0 ∷ 0 ∷ 0 ∷ 1 ∷ []
  -- Excluded: a lookup that is always lost; a hop counted twice or not at all; one that answers where it started.
  pub p10 : lookup_on (reading e1_short) 2 1 0 ≡ 0 ∷ 1 ∷ 1 ∷ 1 ∷ []
  -- b 2, d 2. Excluded: a digit compared with b by at most; no test of the digits.
  pub p11 : (founding 2 2 1 0x2).answer ≡ 7 ∷ []
  -- Excluded: no test of the bits above the digits.
  pub p12 : (founding 2 2 1 0x100).answer ≡ 7 ∷ []

-- The surveys: the refusal, the pairs for 1 to 8 hops, the lost ones.
pub record Surveyed : Type 0 where
  -- Each node reaches the other in one hop. Excluded: pairs with themselves counted; each pair counted once for both ways.
  pub e1 : survey_on (reading e1) ≡ 0 ∷ 2 ∷ 0 ∷ 0 ∷ 0 ∷ 0 ∷ 0 ∷ 0 ∷ 0 ∷ 0 ∷ []
  -- As P9 and P10: one pair is lost. Excluded: a lost pair counted by the hops it took, or not at all.
  pub e1_short : survey_on (reading e1_short) ≡ 0 ∷ 1 ∷ 0 ∷ 0 ∷ 0 ∷ 0 ∷ 0 ∷ 0 ∷ 0 ∷ 1 ∷ []
  -- One node has no pairs.
  pub one : survey_on (founding 8 5 2 0x10261) ≡ 0 ∷ 0 ∷ 0 ∷ 0 ∷ 0 ∷ 0 ∷ 0 ∷ 0 ∷ 0 ∷ 0 ∷ []

-- Reading damaged images: the refusal and the place.
pub record Damaged : Type 0 where
  -- E1 with its second record before its first. Excluded: the place of the record before the one that is below, or counted from 0.
  pub below : (reading (head_of_e1 6 (rec 1 0 1 2 (rec 1 0 0 1 (rec 1 1 0 1 (rec 2 0 0 1 (rec 2 0 1 2 (rec 2 1 0 2 [])))))))).answer ≡ 10 ∷ 2 ∷ []
  -- E1 with level 2 in its third record
  pub level : (reading (head_of_e1 6 (rec 1 0 0 1 (rec 1 0 1 2 (rec 1 2 0 1 (rec 2 0 0 1 (rec 2 0 1 2 (rec 2 1 0 2 [])))))))).answer ≡ 10 ∷ 3 ∷ []
  -- E1 with node 1, whose digit is 0, as neighbour for digit 1
  pub unqualified : (reading (head_of_e1 6 (rec 1 0 0 1 (rec 1 0 1 1 (rec 1 1 0 1 (rec 2 0 0 1 (rec 2 0 1 2 (rec 2 1 0 2 [])))))))).answer ≡ 17 ∷ 2 ∷ []
  -- the same, and level 2 in the last record. Excluded: the number of the first bad record.
  pub number_first : (reading (head_of_e1 6 (rec 1 0 0 1 (rec 1 0 1 1 (rec 1 1 0 1 (rec 2 0 0 1 (rec 2 0 1 2 (rec 2 2 0 2 [])))))))).answer ≡ 10 ∷ 6 ∷ []
  -- E1 with its second record twice: the second finds its entry full, as K is 1. Excluded: the place of the first of its entry.
  pub over : (reading (head_of_e1 7 (rec 1 0 0 1 (rec 1 0 1 2 (rec 1 0 1 2 (rec 1 1 0 1 (rec 2 0 0 1 (rec 2 0 1 2 (rec 2 1 0 2 []))))))))).answer ≡ 17 ∷ 3 ∷ []
  -- E1 without its third record, and without any
  pub absent : (reading (head_of_e1 5 (rec 1 0 0 1 (rec 1 0 1 2 (rec 2 0 0 1 (rec 2 0 1 2 (rec 2 1 0 2 []))))))).answer ≡ 18 ∷ 0 ∷ []
  pub empty : (reading (head_of_e1 0 [])).answer ≡ 18 ∷ 0 ∷ []
  -- node 3 first in an own entry of node 1
  pub misplaced : (reading (three 6 (rec 1 0 0 3 (rec 1 1 0 1 (rec 2 0 1 2 (rec 2 1 0 2 (rec 3 0 0 3 (rec 3 1 1 3 [])))))))).answer ≡ 18 ∷ 1 ∷ []
  -- the same without the fourth record. Excluded: a misplaced owner before an absent own entry.
  pub absent_first : (reading (three 5 (rec 1 0 0 3 (rec 1 1 0 1 (rec 2 0 1 2 (rec 3 0 0 3 (rec 3 1 1 3 []))))))).answer ≡ 18 ∷ 0 ∷ []

-- The masks of 0 to 8 digits are the nine numbers that the code's table held before Ticket 4; that the code gives them is the contract of
-- `ident::suffix_mask`. Excluded: three bits to a digit (the mask of one would be 0x7); a digit more or fewer (that of none would be 0xf, or that
-- of one 0x0).
pub record Masked : Type 0 where
  pub digits_0 : suffix_mask 0 ≡ 0x0
  pub digits_1 : suffix_mask 1 ≡ 0xf
  pub digits_2 : suffix_mask 2 ≡ 0xff
  pub digits_3 : suffix_mask 3 ≡ 0xfff
  pub digits_4 : suffix_mask 4 ≡ 0xffff
  pub digits_5 : suffix_mask 5 ≡ 0xfffff
  pub digits_6 : suffix_mask 6 ≡ 0xffffff
  pub digits_7 : suffix_mask 7 ≡ 0xfffffff
  pub digits_8 : suffix_mask 8 ≡ 0xffffffff

-- Lookups on `deep`; a set has bit u − 1 for node u.
pub record Failed : Type 0 where
  -- the network passes the verdict
  pub whole : verdict_on (reading deep) ≡ 0 ∷ 1 ∷ 0 ∷ 0 ∷ 0 ∷ []
  -- from node 1 to node 3, none failed: by node 2
  pub none : lookup_on (reading deep) 1 3 0 ≡ 0 ∷ 1 ∷ 2 ∷ 3 ∷ []
  -- node 2 failed, and number 64, which no node has: at once. Excluded: a lookup that takes a failed front; one that is lost where the first has failed;
  -- one that counts those passed over as hops (2).
  pub around : lookup_on (reading deep) 1 3 (2 ^ 63 + 2) ≡ 0 ∷ 1 ∷ 1 ∷ 3 ∷ []
  -- the one node that is start and destination failed. Excluded: a lookup that has arrived before the set is asked.
  pub itself : lookup_on (reading deep) 1 1 1 ≡ 21 ∷ 0 ∷ 0 ∷ 0 ∷ []
  -- a number that no node has, and a failed start. Excluded: 21 judged before 9.
  pub nobody : lookup_on (reading deep) 1 4 1 ≡ 9 ∷ 0 ∷ 0 ∷ 0 ∷ []

-- Traces on E1 and on `deep`: the refusal, path and place.
pub record Traced : Type 0 where
  -- on E1 from node 1 to node 2, back, and node 1 alone. Excluded: a path of one node refused.
  pub three_paths : trace_on (reading e1) (3 ∷ 2 ∷ 1 ∷ 2 ∷ 2 ∷ 2 ∷ 1 ∷ 1 ∷ 1 ∷ []) ≡ 0 ∷ 0 ∷ 0 ∷ []
  -- no paths
  pub none : trace_on (reading e1) (0 ∷ []) ≡ 0 ∷ 0 ∷ 0 ∷ []
  -- from node 1 to node 2, and there once more. Excluded: a step past the destination; steps counted from 0.
  pub past : trace_on (reading e1) (1 ∷ 3 ∷ 1 ∷ 2 ∷ 2 ∷ []) ≡ 23 ∷ 1 ∷ 2 ∷ []
  -- a step from the destination, and then a number that no node has. Excluded: the fault that stands first.
  pub number_first : trace_on (reading e1) (2 ∷ 2 ∷ 1 ∷ 1 ∷ 2 ∷ 1 ∷ 3 ∷ []) ≡ 9 ∷ 2 ∷ 2 ∷ []
  -- a number that no node has, and then a path of no places
  pub counts_first : trace_on (reading e1) (2 ∷ 2 ∷ 1 ∷ 3 ∷ 0 ∷ []) ≡ 22 ∷ 0 ∷ 0 ∷ []
  -- on `deep` from node 1 to node 3 at once, which stands second in its entry. Excluded: only the first of an entry.
  pub second : trace_on (reading deep) (1 ∷ 2 ∷ 1 ∷ 3 ∷ []) ≡ 0 ∷ 0 ∷ 0 ∷ []
  -- from node 2 to node 3 by node 1, which matches node 3 in fewer digits
  pub away : trace_on (reading deep) (1 ∷ 3 ∷ 2 ∷ 1 ∷ 3 ∷ []) ≡ 23 ∷ 1 ∷ 1 ∷ []

-- Filling: what it answers, what stands in the output then, and the verdict after it.
pub record Filled : Type 0 where
  -- E1 without a record gets it back. Excluded: a count before the record; a byte past it changed; a list without the tables filled.
  pub answer : (fill_on (reading e1_short) (9 ∷ 9 ∷ 9 ∷ 9 ∷ 9 ∷ [])).answer ≡ 0 ∷ 1 ∷ []
  pub listed : (fill_on (reading e1_short) (9 ∷ 9 ∷ 9 ∷ 9 ∷ 9 ∷ [])).out ≡ 1 ∷ 0 ∷ 1 ∷ 2 ∷ 9 ∷ []
  pub passes : verdict_on (fill_on (reading e1_short) (9 ∷ 9 ∷ 9 ∷ 9 ∷ 9 ∷ [])) ≡ 0 ∷ 1 ∷ 0 ∷ 0 ∷ 0 ∷ []
  -- One byte too few. Excluded: what fits written.
  pub short_answer : (fill_on (reading e1_short) (9 ∷ 9 ∷ 9 ∷ [])).answer ≡ 16 ∷ 0 ∷ []
  pub short_output : (fill_on (reading e1_short) (9 ∷ 9 ∷ 9 ∷ [])).out ≡ 9 ∷ 9 ∷ 9 ∷ []
  -- A whole network needs no memory.
  pub whole : (fill_on (reading e1) []).answer ≡ 0 ∷ 0 ∷ []
  -- Two nodes absent, K 2. Excluded: the highest first; one where both must stand.
  pub rising : (fill_on (reading (deep_with 12 (λ more. more))) (9 ∷ 9 ∷ 9 ∷ 9 ∷ 9 ∷ 9 ∷ 9 ∷ 9 ∷ [])).out ≡ rec 1 0 1 2 (rec 1 0 1 3 [])
  -- Node 3 there already, node 2 behind it then: the lookup from 1 to 3 still takes one hop. Excluded: the lower number put in front.
  pub behind : lookup_on (fill_on (reading (deep_with 13 (λ more. rec 1 0 1 3 more))) (9 ∷ 9 ∷ 9 ∷ 9 ∷ [])) 1 3 0 ≡ 0 ∷ 1 ∷ 1 ∷ 3 ∷ []
