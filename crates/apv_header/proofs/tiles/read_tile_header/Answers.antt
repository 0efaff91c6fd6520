use Rattle.std.proofs.Common.{◌≡◌, ℕ, ◌-◌, ◌*◌, ◌<◌, ◌≤◌, List, length, drop, take, Bool, true, false, not, nat_lt, refl, sym, ap, ap₂, ◌∙◌, arith, length-take-le}
use Rattle.std.specs.List.{sum, list_all}
use Rattle.apv_base.specs.declared.rules.TileBreak.{TileBreak}
use Rattle.apv_base.specs.declared.format.Chroma.{Chroma}
use Rattle.apv_base.specs.declared.format.Chroma.TheVariants.{C400, C422, C444, C4444}
use Rattle.apv_base.specs.model.Format.{comps_of}
use Rattle.apv_base.specs.model.Quant.{max_qp}
use Rattle.apv_base.specs.model.Table.{Table}
use Rattle.apv_base.specs.model.Tile.{tile_header_size, tile_header_values}
use Rattle.apv_base.proofs.WalkLemmas.{Onward}
use Rattle.apv_header.specs.Walks.{numbers, header_fields}
use Rattle.apv_header.proofs.NumbersLemmas.{length-numbers}
use Rattle.apv_header.proofs.TileHeaderLemmas.{Header, header-good, breaks-size, breaks-index, breaks-data, breaks-qps, breaks-reserved}
use Rattle.apv_header.proofs.tiles.read_tile_header.Goals as goal

some_comps : (comps : ℕ) (chroma : Chroma) → comps ≡ comps_of chroma → 0 < comps
some_comps comps C400 e = omega arith
some_comps comps C422 e = omega arith
some_comps comps C444 e = omega arith
some_comps comps C4444 e = omega arith

-- a header's bytes, by the number of components that the code has found
header_at : (comps comps' : ℕ) (chroma : Chroma) (xs index lengths qps reserved : List ℕ) → comps ≡ comps_of chroma → comps' ≡ comps → tile_header_size (comps_of chroma) ≤ length xs
    → index ≡ drop 2 xs → lengths ≡ drop 2 index → qps ≡ drop (4 * comps') lengths → reserved ≡ drop comps qps → Header comps xs index lengths qps reserved
header_at comps comps' chroma xs index lengths qps reserved e f long i l q r = record {
  some = some_comps comps chroma e;
  long = rw e long;
  to_index = i;
  to_lengths = l;
  to_qps = rw f at q;
  to_reserved = r;
}

-- what the code has compared
data_few : (comps size total room header_size : ℕ) (sizes lengths : List ℕ) → header_size ≡ tile_header_size comps → room ≡ size - header_size → total ≡ sum (take comps sizes) → take comps sizes ≡ numbers 4 comps lengths
    → total ≤ room → sum (numbers 4 comps lengths) ≤ size - tile_header_size comps
data_few comps size total room header_size sizes lengths h r t s le = omega (arith, ap sum s)

data_many : (comps size total room header_size : ℕ) (sizes lengths : List ℕ) → header_size ≡ tile_header_size comps → room ≡ size - header_size → total ≡ sum (take comps sizes) → take comps sizes ≡ numbers 4 comps lengths
    → room < total → size - tile_header_size comps < sum (numbers 4 comps lengths)
data_many comps size total room header_size sizes lengths h r t s lt = omega (arith, ap sum s)

qps_are : (comps comps' depth maximum : ℕ) (found answer : Bool) (prefix qps : List ℕ) → comps' ≡ comps → prefix ≡ take comps' qps → maximum ≡ max_qp depth → found ≡ list_all (λ (qp : ℕ). not (nat_lt maximum qp)) prefix → found ≡ answer
    → list_all (λ (qp : ℕ). not (nat_lt (max_qp depth) qp)) (take comps qps) ≡ answer
qps_are comps comps' depth maximum found answer prefix qps e f g h a =
    sym (ap₂ (λ (m : ℕ) (xs : List ℕ). list_all (λ (qp : ℕ). not (nat_lt m qp)) xs) g (f ∙ ap (λ (n : ℕ). take n qps) e)) ∙ sym h ∙ a

table_is : (comps comps' : ℕ) (table prefix qps : List ℕ) → comps' ≡ comps → comps' ≤ length qps → length prefix ≡ comps' → prefix ≡ take comps' qps → take (length prefix) table ≡ prefix → take comps table ≡ take comps qps
table_is comps comps' table prefix qps e le n f t = ap (λ (m : ℕ). take m table) (sym e ∙ sym n) ∙ t ∙ f ∙ ap (λ (m : ℕ). take m qps) e

pub returns-then-from-header_size : goal.returns-then-from-header_size
returns-then-from-header_size c =
    let xs : List ℕ = c.args.bytes.now in
    let comps : ℕ = c.comps-comps.result in
    let h = header_at comps comps c.args.info.now.chroma xs (drop 2 xs) (drop 2 (drop 2 xs)) (drop (4 * comps) (drop 2 (drop 2 xs))) (drop comps (drop (4 * comps) (drop 2 (drop 2 xs)))) c.comps-comps.ensures refl c.requires.long refl refl refl refl in
    rw (← c.comps-comps.ensures)
    (λ (next : Table TileBreak). breaks-size comps c.args.info.now.depth c.args.number c.args.size next xs _ _ _ _ h
    (λ e. c.if-from-header_size.true (c.from.ensures ∙ c.be16.ensures ∙ e ∙ sym c.header_size-header_size.ensures)))

pub returns-then-from-number : goal.returns-then-from-number
returns-then-from-number c =
    let xs : List ℕ = c.args.bytes.now in
    let comps : ℕ = c.comps-comps.result in
    let index : List ℕ = c.split_at.result.1.now in
    let h = header_at comps comps c.args.info.now.chroma xs index (drop 2 index) (drop (4 * comps) (drop 2 index)) (drop comps (drop (4 * comps) (drop 2 index))) c.comps-comps.ensures refl c.requires.long c.split_at.ensures.back refl refl refl in
    let size_is = sym c.be16.ensures ∙ sym c.from.ensures ∙ c.if-from-header_size.false ∙ c.header_size-header_size.ensures in
    rw (← c.comps-comps.ensures)
    (λ (next : Table TileBreak). breaks-index comps c.args.info.now.depth c.args.number c.args.size next xs _ _ _ _ h size_is
    (λ e. c.if-from-number.true (c.from-2.ensures ∙ c.be16-2.ensures ∙ e)))

pub returns-then-data_total-from : goal.returns-then-data_total-from
returns-then-data_total-from c =
    let xs : List ℕ = c.args.bytes.now in
    let comps : ℕ = c.comps-comps.result in
    let lengths : List ℕ = c.split_at-2.result.1.now in
    let h = header_at comps comps c.args.info.now.chroma xs c.split_at.result.1.now lengths (drop (4 * comps) lengths) (drop comps (drop (4 * comps) lengths)) c.comps-comps.ensures refl c.requires.long c.split_at.ensures.back c.split_at-2.ensures.back refl refl in
    let size_is = sym c.be16.ensures ∙ sym c.from.ensures ∙ c.if-from-header_size.false ∙ c.header_size-header_size.ensures in
    let index_is = sym c.be16-2.ensures ∙ sym c.from-2.ensures ∙ c.if-from-number.false in
    let many = data_many comps c.args.size c.data_total.result c.from-3.result c.header_size-header_size.result c.data_sizes-sizes.result lengths c.header_size-header_size.ensures c.from-3.ensures c.data_total.ensures c.data_sizes-sizes.ensures.sizes c.if-data_total-from.true in
    rw (← c.comps-comps.ensures)
    (λ (next : Table TileBreak). breaks-data comps c.args.info.now.depth c.args.number c.args.size next xs _ _ _ _ h (record { size_is = size_is; index_is = index_is }) many)

pub returns-then-not-qps_permitted : goal.returns-then-not-qps_permitted
returns-then-not-qps_permitted c =
    let xs : List ℕ = c.args.bytes.now in
    let comps : ℕ = c.comps-comps.result in
    let lengths : List ℕ = c.split_at-2.result.1.now in
    let qps : List ℕ = c.split_at-3.result.1.now in
    let h = header_at comps c.from-4.result c.args.info.now.chroma xs c.split_at.result.1.now lengths qps (drop comps qps) c.comps-comps.ensures c.from-4.ensures c.requires.long c.split_at.ensures.back c.split_at-2.ensures.back c.split_at-3.ensures.back refl in
    let size_is = sym c.be16.ensures ∙ sym c.from.ensures ∙ c.if-from-header_size.false ∙ c.header_size-header_size.ensures in
    let index_is = sym c.be16-2.ensures ∙ sym c.from-2.ensures ∙ c.if-from-number.false in
    let few = data_few comps c.args.size c.data_total.result c.from-3.result c.header_size-header_size.result c.data_sizes-sizes.result lengths c.header_size-header_size.ensures c.from-3.ensures c.data_total.ensures c.data_sizes-sizes.ensures.sizes c.if-data_total-from.false in
    let some = qps_are comps c.from-5.result c.args.info.now.depth c.qp_max.result c.qps_permitted.result false c.split_at-4.result.0.now qps c.from-5.ensures c.split_at-4.ensures.front c.qp_max.ensures c.qps_permitted.ensures c.if-not-qps_permitted.true in
    rw (← c.comps-comps.ensures)
    (λ (next : Table TileBreak). breaks-qps comps c.args.info.now.depth c.args.number c.args.size next xs _ _ _ _ h (record { size_is = size_is; index_is = index_is }) few some)

pub returns-then-reserved-ne0 : goal.returns-then-reserved-ne0
returns-then-reserved-ne0 c =
    let xs : List ℕ = c.args.bytes.now in
    let comps : ℕ = c.comps-comps.result in
    let lengths : List ℕ = c.split_at-2.result.1.now in
    let qps : List ℕ = c.split_at-3.result.1.now in
    let h = header_at comps c.from-4.result c.args.info.now.chroma xs c.split_at.result.1.now lengths qps c.split_at-4.result.1.now c.comps-comps.ensures c.from-4.ensures c.requires.long c.split_at.ensures.back c.split_at-2.ensures.back c.split_at-3.ensures.back
    (c.split_at-4.ensures.back ∙ ap (λ (n : ℕ). drop n qps) c.from-5.ensures) in
    let size_is = sym c.be16.ensures ∙ sym c.from.ensures ∙ c.if-from-header_size.false ∙ c.header_size-header_size.ensures in
    let index_is = sym c.be16-2.ensures ∙ sym c.from-2.ensures ∙ c.if-from-number.false in
    let few = data_few comps c.args.size c.data_total.result c.from-3.result c.header_size-header_size.result c.data_sizes-sizes.result lengths c.header_size-header_size.ensures c.from-3.ensures c.data_total.ensures c.data_sizes-sizes.ensures.sizes c.if-data_total-from.false in
    let all = qps_are comps c.from-5.result c.args.info.now.depth c.qp_max.result c.qps_permitted.result true c.split_at-4.result.0.now qps c.from-5.ensures c.split_at-4.ensures.front c.qp_max.ensures c.qps_permitted.ensures c.if-not-qps_permitted.false in
    rw (← c.comps-comps.ensures)
    (λ (next : Table TileBreak). breaks-reserved comps c.args.info.now.depth c.args.number c.args.size next xs _ _ _ _ h (record { size_is = size_is; index_is = index_is }) few all c.if-reserved-ne0.true)

values_are : (comps depth tile size : ℕ) (next : Table TileBreak) (xs lengths qps sizes table : List ℕ) → take comps sizes ≡ numbers 4 comps lengths → take comps table ≡ take comps qps
    → Onward 256 (header_fields comps depth tile size next) xs (tile_header_values comps tile (numbers 4 comps lengths) (take comps qps)) next (drop (tile_header_size comps) xs)
    → Onward 256 (header_fields comps depth tile size next) xs (tile_header_values comps tile (take comps sizes) (take comps table)) next (drop (tile_header_size comps) xs)
values_are comps depth tile size next xs lengths qps sizes table s t o = rw (s, t) o

pub returns : goal.returns
returns c =
    let xs : List ℕ = c.args.bytes.now in
    let comps : ℕ = c.comps-comps.result in
    let lengths : List ℕ = c.split_at-2.result.1.now in
    let qps : List ℕ = c.split_at-3.result.1.now in
    let h = header_at comps c.from-4.result c.args.info.now.chroma xs c.split_at.result.1.now lengths qps c.split_at-4.result.1.now c.comps-comps.ensures c.from-4.ensures c.requires.long c.split_at.ensures.back c.split_at-2.ensures.back c.split_at-3.ensures.back
    (c.split_at-4.ensures.back ∙ ap (λ (n : ℕ). drop n qps) c.from-5.ensures) in
    let size_is = sym c.be16.ensures ∙ sym c.from.ensures ∙ c.if-from-header_size.false ∙ c.header_size-header_size.ensures in
    let index_is = sym c.be16-2.ensures ∙ sym c.from-2.ensures ∙ c.if-from-number.false in
    let few = data_few comps c.args.size c.data_total.result c.from-3.result c.header_size-header_size.result c.data_sizes-sizes.result lengths c.header_size-header_size.ensures c.from-3.ensures c.data_total.ensures c.data_sizes-sizes.ensures.sizes c.if-data_total-from.false in
    let all = qps_are comps c.from-5.result c.args.info.now.depth c.qp_max.result c.qps_permitted.result true c.split_at-4.result.0.now qps c.from-5.ensures c.split_at-4.ensures.front c.qp_max.ensures c.qps_permitted.ensures c.if-not-qps_permitted.false in
    let table = table_is comps c.from-5.result c.qp_table.result c.split_at-4.result.0.now qps c.from-5.ensures (omega arith) c.split_at-4.ensures.front_len c.split_at-4.ensures.front c.qp_table.ensures.qps in
    record {
      walked = rw (← c.comps-comps.ensures)
          (λ (next : Table TileBreak). values_are comps c.args.info.now.depth c.args.number c.args.size next xs lengths qps c.data_sizes-sizes.result c.qp_table.result c.data_sizes-sizes.ensures.sizes table
          (header-good comps c.args.info.now.depth c.args.number c.args.size next xs _ _ _ _ h (record { size_is = size_is; index_is = index_is }) few all c.if-reserved-ne0.false));
      length_count = rw (← c.comps-comps.ensures) (ap length c.data_sizes-sizes.ensures.sizes ∙ length-numbers 4 comps lengths);
      qp_count = rw (← c.comps-comps.ensures) (ap length table ∙ length-take-le comps qps (omega (arith, c.from-5.ensures)));
      lengths = rw (← c.comps-comps.ensures) c.data_sizes-sizes.ensures.others;
      qps = λ k le. c.qp_table.ensures.others k (omega (arith, le, c.split_at-4.ensures.front_len, c.from-5.ensures, c.comps-comps.ensures));
    }
