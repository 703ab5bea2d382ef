-- What is known of the parts of an image. im is the image, h its head as the code holds it.
use Rattle.std.specs.Prelude.{ℕ, ◌+◌, ◌*◌, ◌≤◌, ◌<◌, ◌≡◌, true, List, length}
use Rattle.model.specs.Image.{byte_at, has_joins, im_version, im_base, im_digits, im_depth, im_nodes, im_records, records_end, joins_end, im_counts}
use Rattle.model.specs.Image.{rec_node, rec_level, rec_digit, rec_neighbor}
use Rattle.model.proofs.RecordRules.{entry_key}
use Rattle.image_fields.specs.declared.header.Header.{Header}
use Rattle.image_fields.specs.declared.record.Record.{Record}

-- after 3 to 6: the settings are in range and the length is what the counts give
pub record CountsRight (im : List ℕ) : Type 0 where
  pub bytes : (a : ℕ) → byte_at im a < 256
  pub base : im_base im ≤ 16
  pub digits : im_digits im ≤ 8
  pub depth : im_depth im ≤ 4
  pub some : 1 ≤ im_nodes im
  pub few : im_nodes im ≤ 64
  pub whole : records_end im ≤ length im
  pub rest : has_joins (im_version im) ≡ true → length im ≡ joins_end im + 1 + 2 * im_counts im
  pub short : length im ≤ 65535

-- and the code holds the settings and the counts
pub record Headed (im : List ℕ) (h : Header) : Type 0 where
  pub counted : CountsRight im
  pub base : h.base ≡ im_base im
  pub digits : h.digits ≡ im_digits im
  pub depth : h.depth ≡ im_depth im
  pub nodes : h.nodes ≡ im_nodes im
  pub records : h.records ≡ im_records im

-- x is the number of a node
pub record ImageNode (im : List ℕ) (x : ℕ) : Type 0 where
  pub first : 1 ≤ x
  pub last : x ≤ im_nodes im

-- record r as the code holds it
pub record RecordOf (im : List ℕ) (r : ℕ) (e : Record) : Type 0 where
  pub node : e.node ≡ rec_node im r
  pub level : e.level ≡ rec_level im r
  pub digit : e.digit ≡ rec_digit im r
  pub neighbor : e.neighbor ≡ rec_neighbor im r

-- its fields are bytes
pub record Small (e : Record) : Type 0 where
  pub node : e.node < 256
  pub level : e.level < 256
  pub digit : e.digit < 256
  pub neighbor : e.neighbor < 256

-- the entry of a record that the code holds
abbrev pub key_of : Record → ℕ
key_of e = entry_key e.node e.level e.digit
