use Rattle.std.proofs.Common.{◌≡◌, ◌+◌, ◌*◌, length, ap, arith}
use Rattle.apv_bits.proofs.ReaderLemmas.{left_is}
use Rattle.apv_bits.proofs.reader.BitReader.window.Goals as goal

pub returns-clause-none : goal.returns-clause-none
returns-clause-none c =
    let l : length c.args.self.now.left + c.self.inside.place ≡ 8 * length c.self.inside.bytes.now =
    left_is c.self.inside.bytes.now c.self.inside.place c.args.self.now (omega arith) c.self.view_is in
    let p : c.self.inside.place ≡ c.args.self.now.place = ap (λ u. u.place) c.self.view_is in
    (λ none. omega (arith, c.window_at.ensures.none.0 none), λ few. c.window_at.ensures.none.1 (omega arith))
