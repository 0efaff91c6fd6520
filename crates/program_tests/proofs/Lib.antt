mod SureLemmas
