use Rattle.std.proofs.Common.{◌∙◌, ap, arith, codes}
use Rattle.std.specs.Option.{unwrap_or}
use Rattle.apv_words.specs.Decoder.{dec_table}
use Rattle.apv_words.specs.Options.{value_in}
use Rattle.apv_words.specs.Values.{number_of}
use Rattle.apv_words.proofs.RowLemmas.{default_is, good_at}
use Rattle.apv_words.proofs.decoder.settings.Goals as goal

pub number_at-requires : goal.number_at-requires
number_at-requires c = good_at dec_table c.args.options.now c.requires.rows c.requires.sound 4 (omega arith)

pub rate_at-requires : goal.rate_at-requires
rate_at-requires c = good_at dec_table c.args.options.now c.requires.rows c.requires.sound 6 (omega arith)

pub number_at-requires-2 : goal.number_at-requires-2
number_at-requires-2 c = good_at dec_table c.args.options.now c.requires.rows c.requires.sound 7 (omega arith)

pub returns : goal.returns
returns c =
    let threads = c.unwrap_or.ensures ∙ ap (λ v. unwrap_or v 1) c.number_at-2.ensures ∙ default_is number_of (value_in c.args.options.now (codes "threads")) 1 in
    λ i. record {
      input = c.in_ok-name_at.ensures i;
      output = c.in_ok-name_at-2.ensures i;
      metadata = c.in_ok-name_at-3.ensures i;
      select = c.select_at.ensures i;
      group = c.number_at.ensures i;
      form = c.form_at.ensures i;
      rate = c.rate_at.ensures i;
      threads = threads i;
      strict = c.is_given.ensures i;
    }
